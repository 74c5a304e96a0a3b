-- Uniqueness: whatever the arguments, a promise allows one result, or one content of the lent place.
-- Assumes nothing.
use mathlib.Core.Path.{◌≡◌, refl, sym, ap, ◌∙◌}
use mathlib.Core.List.{List}
use Prim.Native.Nat.{ℕ}
use Rattle.aes.proofs.Unique.{Unique, UniqueWriting}
use Rattle.aes.specs.Box.{s_box, inv_s_box}
use Rattle.masks.specs.Mask.{covers_of, masked_boxes, compensation, after_rows, after_columns, constants}
use Rattle.masks.specs.Order.{places_of}
use Rattle.lent.specs.declared.given.Masks.{Masks}
use Rattle.lent.specs.declared.tables.Laid.{Laid}
use Rattle.lent.specs.Started.{offsets_of}
use Rattle.lent.proofs.blocks.sixteen.Reads as sixteen
use Rattle.lent.proofs.given.Block.lent.Reads as block
use Rattle.lent.proofs.given.Block.under.Reads as under
use Rattle.lent.proofs.given.Masks.advanced.Reads as advanced
use Rattle.lent.proofs.given.Masks.answers.Reads as answers
use Rattle.lent.proofs.given.Masks.boxes.Reads as boxes
use Rattle.lent.proofs.given.Masks.compensated.Reads as compensated
use Rattle.lent.proofs.given.Masks.corrected.Reads as corrected
use Rattle.lent.proofs.given.Masks.decryption.Reads as decryption
use Rattle.lent.proofs.given.Masks.encryption.Reads as encryption
use Rattle.lent.proofs.given.Masks.first.Reads as first
use Rattle.lent.proofs.given.Masks.first_constants.Reads as first-constants
use Rattle.lent.proofs.given.Masks.first_covers.Reads as first-covers
use Rattle.lent.proofs.given.Masks.inverse_boxes.Reads as inverse-boxes
use Rattle.lent.proofs.given.Masks.inverse_stepped.Reads as inverse-stepped
use Rattle.lent.proofs.given.Masks.laid.Reads as laid
use Rattle.lent.proofs.given.Masks.lent.Reads as masks
use Rattle.lent.proofs.given.Masks.mask.Reads as mask
use Rattle.lent.proofs.given.Masks.published.Reads as published
use Rattle.lent.proofs.given.Masks.stepped.Reads as stepped
use Rattle.lent.proofs.given.Start.first.Reads as start-first
use Rattle.lent.proofs.given.Start.lent.Reads as start-lent
use Rattle.lent.proofs.given.Start.one.Reads as start-one
use Rattle.lent.proofs.tables.Laid.answers.Reads as laid-answers
use Rattle.lent.proofs.tables.Laid.mask.Reads as laid-mask
use Rattle.lent.proofs.tables.Schedule.key.Reads as key
use Rattle.lent.proofs.tables.Schedule.lent.Reads as schedule-lent
use Rattle.lent.proofs.tables.Schedule.rounds.Reads as rounds

pub sixteen_unique : Unique sixteen.Post
sixteen_unique κs args exit x y p q = p ∙ sym q

pub block_lent_unique : Unique block.Post
block_lent_unique κs args exit x y p q = let e : x.0 ≡ y.0 = p ∙ sym q in λ i. record { 0 = e i }

pub start_one_unique : Unique start-one.Post
start_one_unique κs args exit x y p q = p ∙ sym q

pub start_lent_unique : Unique start-lent.Post
start_lent_unique κs args exit x y p q = p ∙ sym q

pub start_first_unique : Unique start-first.Post
start_first_unique κs args exit x y p q = let e : x.0 ≡ y.0 = p ∙ sym q in λ i. record { 0 = e i }

pub masks_published_unique : Unique published.Post
masks_published_unique κs args exit x y p q = p ∙ sym q

pub masks_lent_unique : Unique masks.Post
masks_lent_unique κs args exit x y p q = p ∙ sym q

pub masks_first_unique : Unique first.Post
masks_first_unique κs args exit x y p q = let e : x.0 ≡ y.0 = p ∙ sym q in λ i. record { 0 = e i }

pub masks_answers_unique : Unique answers.Post
masks_answers_unique κs args exit x y p q = p ∙ sym q

pub masks_laid_unique : UniqueWriting {Held = List ℕ × List ℕ} laid.Post (λ κs e. (e.1.0.now, e.1.1.0.now))
masks_laid_unique κs args e f x y p q = (refl, λ i. ((p.0 ∙ sym q.0) i, (p.1 ∙ sym q.1) i))

pub masks_compensated_unique : UniqueWriting compensated.Post (λ κs e. e.1.1.0.now)
masks_compensated_unique κs args e f x y p q = (refl, p ∙ sym q)

pub masks_corrected_unique : UniqueWriting {Held = List ℕ × List ℕ} corrected.Post (λ κs e. (e.1.1.0.now, e.1.1.1.0.now))
masks_corrected_unique κs args e f x y p q = (refl, λ i. ((p.0 ∙ sym q.0) i, (p.1 ∙ sym q.1) i))

pub masks_boxes_unique : UniqueWriting boxes.Post (λ κs e. e.1.0.now)
masks_boxes_unique κs args e f x y p q = (refl, p ∙ sym q)

pub masks_stepped_unique : UniqueWriting stepped.Post (λ κs e. e.1.0.now)
masks_stepped_unique κs args e f x y p q = (refl, p ∙ sym q)

pub masks_first_covers_unique : UniqueWriting first-covers.Post (λ κs e. e.1.0.now)
masks_first_covers_unique κs args e f x y p q = (refl, p ∙ sym q)

pub masks_first_constants_unique : UniqueWriting first-constants.Post (λ κs e. e.1.1.0.now)
masks_first_constants_unique κs args e f x y p q = (refl, p ∙ sym q)

pub masks_inverse_boxes_unique : UniqueWriting inverse-boxes.Post (λ κs e. e.1.0.now)
masks_inverse_boxes_unique κs args e f x y p q = (refl, p ∙ sym q)

pub masks_inverse_stepped_unique : UniqueWriting inverse-stepped.Post (λ κs e. e.1.0.now)
masks_inverse_stepped_unique κs args e f x y p q = (refl, p ∙ sym q)

pub block_under_unique : Unique under.Post
block_under_unique κs args exit x y p q = p ∙ sym q

pub masks_mask_unique : Unique mask.Post
masks_mask_unique κs args exit x y p q = p ∙ sym q

pub masks_advanced_unique : Unique advanced.Post
masks_advanced_unique κs args exit x y p q = let e : x.0 ≡ y.0 = p ∙ sym q in λ i. record { 0 = e i }

pub laid_mask_unique : Unique laid-mask.Post
laid_mask_unique κs args exit x y p q = p ∙ sym q

pub laid_answers_unique : Unique laid-answers.Post
laid_answers_unique κs args exit x y p q = p ∙ sym q

pub schedule_rounds_unique : Unique rounds.Post
schedule_rounds_unique κs args exit x y p q = p ∙ sym q

pub schedule_key_unique : Unique key.Post
schedule_key_unique κs args exit x y p q = p ∙ sym q

-- what is lent is told by what it shows, wherever that lies
abbrev pub UniqueShown :
    {K Shown : Type 0} {Args Result Exit : K → Type 0} → ((κs : K) → Args κs → Result κs → Exit κs → Type 0) → ((κs : K) → Result κs → Shown) → Type 0
UniqueShown {K} {Shown} {Args} {Result} {Exit} Post shown =
    (κs : K) (args : Args κs) (exit : Exit κs) (x y : Result κs) → Post κs args x exit → Post κs args y exit → shown κs x ≡ shown κs y

pub schedule_lent_unique : UniqueShown {Shown = List ℕ × ℕ} schedule-lent.Post (λ κs s. (s.bytes.now, s.rounds))
schedule_lent_unique κs args exit x y p q = λ i. ((p.0 ∙ sym q.0) i, (p.1 ∙ sym q.1) i)

laid_told : (x y : Laid) → x.masks ≡ y.masks → ◌≡◌ {A = List ℕ × List ℕ} (x.places.now, x.covers.now) (y.places.now, y.covers.now)
laid_told x y e =
    let places : x.places.now ≡ y.places.now = x.placed ∙ ap (λ (m : Masks). places_of (offsets_of m)) e ∙ sym y.placed in
    let covers : x.covers.now ≡ y.covers.now = x.covered ∙ ap (λ (m : Masks). covers_of m.bytes (offsets_of m)) e ∙ sym y.covered in
    λ i. (places i, covers i)

pub masks_encryption_unique : UniqueShown {Shown = (List ℕ × List ℕ) × List ℕ × List ℕ} encryption.Post (λ κs t. ((t.laid.places.now, t.laid.covers.now), t.boxes.now, t.compensations.now))
masks_encryption_unique κs args exit x y p q =
    let e : x.laid.masks ≡ y.laid.masks = p ∙ sym q in
    let boxes : x.boxes.now ≡ y.boxes.now = x.boxed ∙ ap (λ (m : Masks). masked_boxes s_box m.bytes m.step) e ∙ sym y.boxed in
    let row : x.compensations.now ≡ y.compensations.now = x.compensated ∙ ap (λ (m : Masks). constants compensation m.bytes (offsets_of m)) e ∙ sym y.compensated in
    λ i. (laid_told x.laid y.laid e i, boxes i, row i)

pub masks_decryption_unique : UniqueShown {Shown = (List ℕ × List ℕ) × List ℕ × List ℕ × List ℕ} decryption.Post (λ κs t. ((t.laid.places.now, t.laid.covers.now), t.boxes.now, t.rows.now, t.columns.now))
masks_decryption_unique κs args exit x y p q =
    let e : x.laid.masks ≡ y.laid.masks = p ∙ sym q in
    let boxes : x.boxes.now ≡ y.boxes.now = x.boxed ∙ ap (λ (m : Masks). masked_boxes inv_s_box m.bytes m.step) e ∙ sym y.boxed in
    let rows : x.rows.now ≡ y.rows.now = x.row_wise ∙ ap (λ (m : Masks). constants after_rows m.bytes (offsets_of m)) e ∙ sym y.row_wise in
    let columns : x.columns.now ≡ y.columns.now = x.column_wise ∙ ap (λ (m : Masks). constants after_columns m.bytes (offsets_of m)) e ∙ sym y.column_wise in
    λ i. (laid_told x.laid y.laid e i, boxes i, rows i, columns i)
