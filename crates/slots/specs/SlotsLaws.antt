-- Laws of where records stand.
use Rattle.std.specs.Prelude.{ℕ, suc, ◌+◌, ◌*◌, ◌^◌, ◌≤◌, ◌<◌, ◌≡◌, refl, ◌⊎◌, Bool, true, false, List, ◌∷◌, ◌++◌, length, get_or, take, drop}
use Rattle.std.proofs.Common.{ap, ap₂, sym, subst, ◌∙◌, inl, inr, ⊎_elim, length-drop, length-take, length-append, length-take-le, get_or-take}
use native.Mathlib.Omega.{arith}
use Rattle.std.proofs.Math.Nat.{min-le_left}
use Rattle.laws.specs.Order.{order, same}
use Rattle.files.specs.File.{segments_of, contracts_before, contracts_of}
use Rattle.files.specs.FileLaws.{before_reaches}
use Rattle.pairs.specs.Lists.{Lists, Headers}
use Rattle.files.specs.RecordsLaws.{records_apart}
use Rattle.forms.specs.declared.rows.Level.{Level}
use Rattle.forms.specs.declared.rows.Level.TheVariants.{One, Two}
use Rattle.forms.specs.declared.forms.Item.{Item}
use Rattle.forms.specs.declared.forms.Item.TheVariants.{Contract, Pair}
use Rattle.forms.specs.declared.forms.Form.{Form}
use Rattle.forms.specs.declared.forms.Form.TheVariants.{Heartbeat, LevelOne, LevelTwo, PairOne, PairTwo, FutureOne, FutureTwo, PreOpenOne, PreOpenTwo}
use Rattle.forms.specs.declared.forms.Subject.{Subject}
use Rattle.forms.specs.declared.forms.Subject.TheVariants.{Nothing, Of}
use Rattle.forms.specs.Forms.{named_rows, rows_of, subject_of, record_form, session_of, is_stamped, key_rows_of}
use Rattle.forms.specs.FormsLaws.{fits}
use Rattle.forms.specs.Sizes.{most_rows, key_row_count, pair_row_count}
use Rattle.pairs.specs.Items.{file_of}
use Rattle.pairs.specs.ItemsLaws.{segments_of_lem}
use Rattle.layout.specs.Cells.{session_cell}
use Rattle.slots.specs.Slots.{Slot, slot, SlotListed, records_wanted, cells_in_front, level_cells, item_cells}
use Rattle.slots.specs.Places.{slot_at, slot_cells, no_stamp, record_of, record_rows, record_at, front_of, items_at}

-- the rows that a record keeps: those behind the key, fewer than 34, and as many cells as the record has behind its front
pub record Kept (item : Item) (level : Level) : Type 0 where
  pub few : record_rows item level ≤ 33
  pub behind_key_lem : record_rows item level + key_rows_of item ≡ length (rows_of (record_form item level))
  pub cells_are : level_cells item level ≡ cells_in_front item + record_rows item level

pub kept : (item : Item) (level : Level) → Kept item level
unfolding record_rows rows_of named_rows
kept Contract One = record { few = omega arith; behind_key_lem = refl; cells_are = refl }
kept Contract Two = record { few = omega arith; behind_key_lem = refl; cells_are = refl }
kept Pair One = record { few = omega arith; behind_key_lem = refl; cells_are = refl }
kept Pair Two = record { few = omega arith; behind_key_lem = refl; cells_are = refl }

pub rows_few : (item : Item) (level : Level) → record_rows item level ≤ 33
rows_few item level = (kept item level).few

pub rows_kept : (item : Item) (level : Level) → record_rows item level + key_rows_of item ≡ length (rows_of (record_form item level))
rows_kept item level = (kept item level).behind_key_lem

-- a record's cells: those in front, then one a row
pub cells_by_rows : (item : Item) (level : Level) → level_cells item level ≡ cells_in_front item + record_rows item level
cells_by_rows item level = (kept item level).cells_are

-- an update's rows fill its record: of a contract's the market type has a cell of its own, and the time stamp one where it is none
abbrev FillsRecord : Item → Level → Form → Type 0
FillsRecord Contract level form = level_cells Contract level + suc key_row_count ≡ 3 + length (no_stamp (is_stamped form)) + length (rows_of form)
FillsRecord Pair level form = level_cells Pair level + pair_row_count ≡ suc (length (rows_of form))

abbrev Fills : Subject → Form → Type 0
Fills Nothing form = Unit {0}
Fills (Of item level) form = FillsRecord item level form

fills : (form : Form) → Fills (subject_of form) form
unfolding rows_of named_rows
fills Heartbeat = tt
fills LevelOne = refl
fills LevelTwo = refl
fills PairOne = refl
fills PairTwo = refl
fills FutureOne = refl
fills FutureTwo = refl
fills PreOpenOne = refl
fills PreOpenTwo = refl

fills_record : (form : Form) (item : Item) (level : Level) → subject_of form ≡ Of item level → FillsRecord item level form
fills_record form item level e = subst (λ (subject : Subject). Fills subject form) e (fills form)

record_wide : (item : Item) (level : Level) → 9 < level_cells item level
record_wide Contract One = omega arith
record_wide Contract Two = omega arith
record_wide Pair One = omega arith
record_wide Pair Two = omega arith

stamp_few : (stamped : Bool) → length (no_stamp stamped) ≤ 1
stamp_few true = omega arith
stamp_few false = omega arith

-- an update of a contract has its market type behind the key, and a pair's has rows behind it
pub rows_behind : (form : Form) (item : Item) (level : Level) → subject_of form ≡ Of item level → suc (key_rows_of item) ≤ length (rows_of form)
rows_behind form Contract level e = omega (arith, fills_record form Contract level e, record_wide Contract level, stamp_few (is_stamped form))
rows_behind form Pair level e = omega (arith, fills_record form Pair level e, record_wide Pair level)

-- the cells of a record: no more than it has
pub record_most : (form : Form) (item : Item) (level : Level) → subject_of form ≡ Of item level → (cells : List ℕ) → suc (length (record_of item form cells)) ≤ level_cells item level
record_most form Contract level e cells =
    let rows : ℕ = length (rows_of form) in
    let front : length (take rows cells) ≤ rows = omega (arith, length-take rows cells, min-le_left rows (length cells)) in
    simp (length-append, length-drop) (omega (arith, fills_record form Contract level e, record_wide Contract level, stamp_few (is_stamped form)))
record_most form Pair level e cells =
    let rows : ℕ = length (rows_of form) in
    let front : length (take rows cells) ≤ rows = omega (arith, length-take rows cells, min-le_left rows (length cells)) in
    simp length-drop (omega (arith, fills_record form Pair level e, record_wide Pair level))

-- and where there are as many as the most rows of a form, as many as it has
pub record_long : (form : Form) (item : Item) (level : Level) → subject_of form ≡ Of item level → (cells : List ℕ) → length cells ≡ most_rows
    → suc (length (record_of item form cells)) ≡ level_cells item level
record_long form Contract level e cells long =
    let rows : ℕ = length (rows_of form) in
    simp (length-append, length-drop, length-take-le rows cells (rw long (fits form).rows_fit)) (omega (arith, fills_record form Contract level e, record_wide Contract level, stamp_few (is_stamped form)))
record_long form Pair level e cells long =
    let rows : ℕ = length (rows_of form) in
    simp (length-drop, length-take-le rows cells (rw long (fits form).rows_fit)) (omega (arith, fills_record form Pair level e, record_wide Pair level))

-- a record is made of the cells of its form's rows alone
pub record_by_rows : (form : Form) (item : Item) → suc (key_rows_of item) ≤ length (rows_of form) → (cells cells' : List ℕ)
    → take (length (rows_of form)) cells ≡ take (length (rows_of form)) cells' → record_of item form cells ≡ record_of item form cells'
record_by_rows form Contract rows cells cells' e =
    let n : ℕ = length (rows_of form) in
    ap₂ (λ (market : ℕ) (front : List ℕ). session_cell (session_of form) ∷ market ∷ (no_stamp (is_stamped form) ++ drop (suc key_row_count) front))
    (sym (get_or-take n cells key_row_count 0 (omega arith)) ∙ ap (λ (l : List ℕ). get_or l key_row_count 0) e ∙ get_or-take n cells' key_row_count 0 (omega arith)) e
record_by_rows form Pair rows cells cells' e = ap (drop pair_row_count) e

-- a record ends with the cells of its contract or pair, or before
record_ends : (item : Item) (front place : ℕ) (level : Level) → record_at item front place level + level_cells item level ≤ front + item_cells item * place + item_cells item
record_ends Contract front place One = omega arith
record_ends Contract front place Two = omega arith
record_ends Pair front place One = omega arith
record_ends Pair front place Two = omega arith

record_begins : (item : Item) (front place : ℕ) (level : Level) → front + item_cells item * place ≤ record_at item front place level
record_begins item front place level = omega arith

pub some_front : (item : Item) → 0 < cells_in_front item
some_front Contract = omega arith
some_front Pair = omega arith

-- the rows end inside
pub record_inside : (item : Item) (front place : ℕ) (level : Level) → record_at item front place level + cells_in_front item + record_rows item level ≤ front + item_cells item * place + item_cells item
record_inside item front place level = omega (arith, record_ends item front place level, cells_by_rows item level, some_front item)

pub cells_small : (item : Item) (place : ℕ) → place < 65536 → item_cells item * place < 2 ^ 32
cells_small Contract place h = omega arith
cells_small Pair place h = omega arith

pub level_small : (item : Item) (level : Level) → level_cells item level < 256
level_small Contract One = omega arith
level_small Contract Two = omega arith
level_small Pair One = omega arith
level_small Pair Two = omega arith

pub level_most : (item : Item) (level : Level) → level_cells item level ≤ level_cells Contract Two
level_most Contract One = omega arith
level_most Contract Two = omega arith
level_most Pair One = omega arith
level_most Pair Two = omega arith

-- where all records of contracts, or all of pairs, end
module _ (lists : Lists) where
  items_end : Item → ℕ
  items_end item = items_at item lists + item_cells item * contracts_of (file_of item lists)

  all_inside : (item : Item) → items_end item ≤ records_wanted lists
  unfolding items_end
  all_inside Contract = omega arith
  all_inside Pair = omega arith

  module _ (h : Headers lists) where
    reaches : (item : Item) (i place : ℕ) → SlotListed lists (slot item i place One)
        → front_of item lists i + item_cells item * place + item_cells item ≤ items_end item
    unfolding items_end
    reaches Contract i place there = omega (arith, before_reaches lists.contracts i there.0, there.1)
    reaches Pair i place there =
        let inside : i < segments_of lists.pairs = rw (segments_of_lem lists h Pair) there.0 in
        omega (arith, before_reaches lists.pairs i inside, there.1)

    -- a slot of what is listed lies in the cells wanted
    pub slot_inside : (s : Slot) → SlotListed lists s → slot_at lists s + slot_cells s ≤ records_wanted lists
    slot_inside (slot item i place level) there =
        omega (arith, record_ends item (front_of item lists i) place level, reaches item i place there, all_inside item)

pub slot_some : (s : Slot) → 0 < slot_cells s
slot_some (slot item i place level) = omega (arith, cells_by_rows item level, some_front item)

-- ---- two slots do not overlap

-- a record by the place of its contract or pair among all
among : (item : Item) (base before place : ℕ) (level : Level) → record_at item (base + item_cells item * before) place level ≡ record_at item base (before + place) level
among Contract base before place One = omega arith
among Contract base before place Two = omega arith
among Pair base before place One = omega arith
among Pair base before place Two = omega arith

abbrev Apart : Item → ℕ → ℕ → Level → ℕ → Level → Type 0
Apart item base c a d b =
    (record_at item base c a + level_cells item a ≤ record_at item base d b) ⊎ (record_at item base d b + level_cells item b ≤ record_at item base c a)

places_apart : (item : Item) (base c : ℕ) (a : Level) (d : ℕ) (b : Level) → (c ≡ d → ⊥) → Apart item base c a d b
places_apart item base c a d b n =
    ⊎_elim (λ (h : c ≤ d). inl (below item c a d b (omega arith))) (λ (h : d < c). inr (below item d b c a h)) (order c d)
  where
    next : (item : Item) (c d : ℕ) → c < d → base + item_cells item * c + item_cells item ≤ base + item_cells item * d
    next Contract c d h = omega arith
    next Pair c d h = omega arith

    below : (item : Item) (c : ℕ) (a : Level) (d : ℕ) (b : Level) → c < d → record_at item base c a + level_cells item a ≤ record_at item base d b
    below item c a d b h = omega (arith, record_ends item base c a, next item c d h, record_begins item base d b)

levels_apart : (item : Item) (base c d : ℕ) (a b : Level) → c ≡ d → (a ≡ b → ⊥) → Apart item base c a d b
levels_apart item base c d One One e n = absurd (n refl)
levels_apart item base c d One Two e n = inl (rw e (omega arith))
levels_apart item base c d Two One e n = inr (rw e (omega arith))
levels_apart item base c d Two Two e n = absurd (n refl)

module _ (lists : Lists) (h : Headers lists) where
  abbrev SlotsApart : Slot → Slot → Type 0
  SlotsApart a b = (slot_at lists a + slot_cells a ≤ slot_at lists b) ⊎ (slot_at lists b + slot_cells b ≤ slot_at lists a)

  -- two contracts, or two pairs
  alike : (item : Item) (i p : ℕ) (x : Level) (j q : ℕ) (y : Level) → SlotListed lists (slot item i p x) → SlotListed lists (slot item j q y)
      → (slot item i p x ≡ slot item j q y → ⊥) → SlotsApart (slot item i p x) (slot item j q y)
  alike item i p x j q y there there' n =
      let file : List ℕ = file_of item lists in
      let first : i < segments_of file = rw (segments_of_lem lists h item) there.0 in
      let second : j < segments_of file = rw (segments_of_lem lists h item) there'.0 in
      rw (among item (items_at item lists) (contracts_before file i) p x, among item (items_at item lists) (contracts_before file j) q y)
      (⊎_elim (λ (e : contracts_before file i + p ≡ contracts_before file j + q).
      let both = records_apart file i p j q (record { segment = first; place = there.1 }) (record { segment = second; place = there'.1 }) e in
      levels_apart item _ _ _ x y e (λ f. n (λ k. slot item (both.0 k) (both.1 k) (f k))))
      (λ (m : contracts_before file i + p ≡ contracts_before file j + q → ⊥). places_apart item _ _ x _ y m)
      (same (contracts_before file i + p) (contracts_before file j + q)))

  -- all contracts stand before all pairs
  contract_first : (i p : ℕ) (x : Level) (j q : ℕ) (y : Level) → SlotListed lists (slot Contract i p x)
      → slot_at lists (slot Contract i p x) + level_cells Contract x ≤ slot_at lists (slot Pair j q y)
  unfolding items_end
  contract_first i p x j q y there =
      omega (arith, record_ends Contract (front_of Contract lists i) p x, reaches lists h Contract i p there, record_begins Pair (front_of Pair lists j) q y)

  pub slots_apart : (a b : Slot) → SlotListed lists a → SlotListed lists b → (a ≡ b → ⊥) → SlotsApart a b
  slots_apart (slot Contract i p x) (slot Contract j q y) there there' n = alike Contract i p x j q y there there' n
  slots_apart (slot Pair i p x) (slot Pair j q y) there there' n = alike Pair i p x j q y there there' n
  slots_apart (slot Contract i p x) (slot Pair j q y) there there' n = inl (contract_first i p x j q y there)
  slots_apart (slot Pair i p x) (slot Contract j q y) there there' n = inr (contract_first j q y i p x there')
