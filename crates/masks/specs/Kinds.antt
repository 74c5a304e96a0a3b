-- What each kind of constants is of the mask that is to lie there.
-- Assumes nothing.
use Rattle.std.specs.Prelude.{List, ℕ}
use Rattle.masks.specs.declared.constants.Kind.{Kind}
use Rattle.masks.specs.declared.constants.Kind.TheVariants.{Compensation, AfterRows, AfterColumns}
use Rattle.masks.specs.Mask.{compensation, after_rows, after_columns}

abbrev pub constant_of : Kind → List ℕ → List ℕ
constant_of Compensation = compensation
constant_of AfterRows = after_rows
constant_of AfterColumns = after_columns
