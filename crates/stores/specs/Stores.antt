-- The stores of a batch's updates on scratch memory: the words of the inner contracts.
use Rattle.std.specs.Prelude.{ℕ, zero, suc, ◌+◌, ◌*◌, ◌^◌, ◌≤◌, ◌<◌, ◌≡◌, List, ◌∷◌, ◌⊎◌, length, get_or, take, drop}
use Rattle.std.proofs.lemmas.List.Edits.{sets}
use Rattle.forms.specs.declared.rows.Level.TheVariants.{Two}
use Rattle.forms.specs.declared.forms.Form.{Form}
use Rattle.forms.specs.declared.forms.Subject.{Subject}
use Rattle.forms.specs.declared.forms.Subject.TheVariants.{Nothing, Of}
use Rattle.forms.specs.declared.forms.Item.{Item}
use Rattle.forms.specs.declared.forms.Item.TheVariants.{Contract}
use Rattle.slots.specs.Slots.{level_cells}
use Rattle.slots.specs.declared.records.Fronts.{Fronts}
use Rattle.slots.specs.Places.{record_at, record_of, front_in}
use Rattle.stores.specs.Stored.{stored}

-- a word of our own: the cells of a store: its record's place, how many cells the record has, and those of a contract's level 2 record,
-- which has the most
abbrev pub store_cells : ℕ
store_cells = 2 + level_cells Contract Two

-- a word of our own: store i
abbrev pub store_of : List ℕ → ℕ → List ℕ
store_of stores i = take store_cells (drop (store_cells * i) stores)

-- a word of our own: a record stored at its place: its number, then its rows
abbrev pub stored_at : ℕ → List ℕ → List ℕ → List ℕ
stored_at at update records = stored at (get_or update 0 0) (drop 1 update) records

-- a word of our own: what making a store does to the records
abbrev pub made_of : List ℕ → List ℕ → List ℕ
made_of kept records = stored_at (get_or kept 0 0) (take (get_or kept 1 0) (drop 2 kept)) records

-- a word of our own: the first so many stores made in turn
abbrev pub made : ℕ → List ℕ → List ℕ → List ℕ
made zero stores records = records
made (suc n) stores records = made_of (store_of stores n) (made n stores records)

-- a word of our own: a store's record lies within so many cells
abbrev pub Fits : ℕ → List ℕ → Type 0
Fits cells kept = (0 < get_or kept 1 0) × (get_or kept 1 0 ≤ level_cells Contract Two) × (get_or kept 0 0 + get_or kept 1 0 ≤ cells)

-- a word of our own: the records of the first so many stores do
abbrev pub AllFit : ℕ → ℕ → List ℕ → Type 0
AllFit cells n stores = (i : ℕ) → i < n → Fits cells (store_of stores i)

-- 01 "The message", M-104: the bytes of the shortest update: FN at level 1
abbrev pub least_update : ℕ
least_update = 204

-- a word of our own: so many cells have room for every update that so many bytes can hold
pub record Room (cells long : ℕ) : Type 0 where
  pub slots : ℕ
  pub there : store_cells * slots ≤ cells
  pub enough : long < least_update * slots + least_update

-- a word of our own: a store was kept behind the others, or there is no room for it
abbrev pub StoreKept : List ℕ → ℕ → ℕ → ℕ → List ℕ → ℕ → List ℕ → Type 0
StoreKept stores kept at number cells kept' stores' =
    ((length stores < store_cells * kept + store_cells) × (kept' ≡ kept) × (stores' ≡ stores))
    ⊎ ((store_cells * kept + store_cells ≤ length stores) × (kept' ≡ suc kept) × (stores' ≡ sets stores (store_cells * kept) (at ∷ suc (length cells) ∷ number ∷ cells)))

-- a word of our own: a usize holds what is added to where records begin
abbrev pub Near : Fronts → Type 0
Near fronts = (item : Item) → front_in fronts item < 2 ^ 40

-- a word of our own: the store of an update of what is listed at a place of its segment, by what it tells of
abbrev pub KeptFor : Subject → Form → List ℕ → ℕ → Fronts → ℕ → ℕ → List ℕ → ℕ → List ℕ → Type 0
KeptFor Nothing form stores kept fronts place number cells kept' stores' = (kept' ≡ kept) × (stores' ≡ stores)
KeptFor (Of item level) form stores kept fronts place number cells kept' stores' =
    StoreKept stores kept (record_at item (front_in fronts item) place level) number (record_of item form cells) kept' stores'

-- a word of our own: what a message of so many bytes changes of the records, the stores kept after it make, where an update has
-- room
pub record Keeps (cells long : ℕ) (stores : List ℕ) (kept : ℕ) (changes : List ℕ → List ℕ) (kept' : ℕ) (stores' : List ℕ) : Type 0 where
  pub makes : (least_update ≤ long → store_cells * kept + store_cells ≤ length stores) → (records : List ℕ) → made kept' stores' records ≡ changes (made kept stores records)
  pub fit : AllFit cells kept stores → AllFit cells kept' stores'
  pub few : least_update * kept' ≤ least_update * kept + long
  pub within : store_cells * kept' ≤ length stores
