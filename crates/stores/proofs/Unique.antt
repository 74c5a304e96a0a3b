-- Uniqueness: a promise allows one table.
-- Assumes nothing.
use mathlib.Core.Path.{sym, ◌∙◌}
use Rattle.aes.proofs.Unique.{Unique}
use Rattle.stores.proofs.boxes.boxes.Reads as boxes
use Rattle.stores.proofs.constants.after_columns.Reads as after-columns
use Rattle.stores.proofs.constants.after_rows.Reads as after-rows
use Rattle.stores.proofs.constants.compensations.Reads as compensations
use Rattle.stores.proofs.constants.covers.Reads as covers
use Rattle.stores.proofs.inverse.inverse_boxes.Reads as inverse-boxes

pub boxes_unique : Unique boxes.Post
boxes_unique κs args exit x y p q = p ∙ sym q

pub inverse_boxes_unique : Unique inverse-boxes.Post
inverse_boxes_unique κs args exit x y p q = p ∙ sym q

pub covers_unique : Unique covers.Post
covers_unique κs args exit x y p q = p ∙ sym q

pub compensations_unique : Unique compensations.Post
compensations_unique κs args exit x y p q = p ∙ sym q

pub after_rows_unique : Unique after-rows.Post
after_rows_unique κs args exit x y p q = p ∙ sym q

pub after_columns_unique : Unique after-columns.Post
after_columns_unique κs args exit x y p q = p ∙ sym q
