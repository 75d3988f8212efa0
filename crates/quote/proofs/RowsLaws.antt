-- Cells by the names of their rows, whatever is laid out in them.
use Rattle.std.specs.Prelude.{ℕ, zero, suc, ◌+◌, ◌<◌, ◌≡◌, refl, Bool, true, false, List, [], ◌∷◌, ◌++◌, map, length, get_or, drop}
use Rattle.std.proofs.Common.{ap, sym, ◌∙◌, arith, get_or-drop, drop-drop}
use Rattle.std.proofs.Math.Option.{Option, none, some}
use Rattle.decimal.specs.declared.Held.{Held}
use Rattle.decimal.specs.declared.Held.TheVariants.{Nothing}
use Rattle.forms.specs.declared.rows.Row.{Row}
use Rattle.forms.specs.Names.{Name, NamedRow}
use Rattle.forms.specs.SameName.{same_name}
use Rattle.forms.specs.NamesLaws.{same_name_lem}
use Rattle.layout.specs.Cells.{none as no_cell, held_in, byte_in}
use Rattle.layout.specs.Plain.{no_room, value_of, seen_value, seen_values}
use Rattle.layout.specs.CellsLaws.{byte_back}
use Rattle.quote.specs.Quote.{next, row_named, cell_at, cell_named, order_levels, side_in, values_by, where_some, where_named, seen_side}
use Rattle.quote.specs.Shows.{most_orders}
use Rattle.quote.specs.NumberLaws.{IsNumber, number_back}

-- no value is that of an amount that has none
abbrev pub AllHeld : List ℕ → Type 0
AllHeld cells = (k : ℕ) → get_or cells k 0 ≡ no_room → ⊥

-- ---- a name's cell

next_cell : (place : Option ℕ) (cell : ℕ) (cells : List ℕ) → cell_at (next place) (cell ∷ cells) ≡ cell_at place cells
next_cell none cell cells = refl
next_cell (some k) cell cells = refl

next_some : {A : Type 0} (place : Option ℕ) (value other : A) → where_some (next place) value other ≡ where_some place value other
next_some none value other = refl
next_some (some k) value other = refl

-- cells that are given by name have at a name's row what is given for it
named_cell : (given : Name → ℕ) (rows : List NamedRow) (rest : List ℕ) (name : Name)
    → cell_named rows name (map (λ row. given row.name) rows ++ rest) ≡ where_named rows name (given name) no_cell
named_cell given [] rest name = refl
named_cell given (row ∷ rows) rest name = go (same_name row.name name) refl (named_cell given rows rest name)
  where
    cells : List ℕ
    cells = map (λ r. given r.name) rows ++ rest

    go : (same : Bool) → same_name row.name name ≡ same → cell_named rows name cells ≡ where_named rows name (given name) no_cell
        → cell_named (row ∷ rows) name (given row.name ∷ cells) ≡ where_named (row ∷ rows) name (given name) no_cell
    go true t later = rw t (ap given ((same_name_lem row.name name).0 t))
    go false t later = rw t (next_cell (row_named rows name) (given row.name) cells ∙ later ∙ sym (next_some (row_named rows name) (given name) no_cell))

-- ---- what names are given, through the cells

module _ (given : Name → ℕ) (rows : List NamedRow) (rest : List ℕ) where
  abbrev laid : List ℕ
  laid = values_by rows given ++ rest

  found : (name : Name) (k : ℕ) → row_named rows name ≡ some k → get_or laid k 0 ≡ given name
  found name k e = rw e at (named_cell given rows rest name)

  -- a letter is read back where it is a byte
  pub letter_seen : (name : Name) (byte : ℕ) → given name ≡ byte → ((k : ℕ) → row_named rows name ≡ some k → byte < 256)
      → byte_in (cell_named rows name laid) ≡ where_named rows name byte 0
  letter_seen name byte is small = go (row_named rows name) refl
    where
      go : (place : Option ℕ) → row_named rows name ≡ place → byte_in (cell_named rows name laid) ≡ where_named rows name byte 0
      go none e = rw e
      go (some k) e = rw e (ap byte_in (found name k e ∙ is) ∙ byte_back byte (small k e))

  -- a side is read back where each of its orders is
  pub side_seen : {A : Type 0} (order : ℕ → ℕ → A) (see : Name → Name → A → A) (nothing : A) (price_name quantity_name : ℕ → Name) (orders : List A)
      → ((k : ℕ) → order (cell_named rows (price_name k) laid) (cell_named rows (quantity_name k) laid) ≡ see (price_name k) (quantity_name k) (get_or orders k nothing))
      → side_in order price_name quantity_name rows laid ≡ seen_side see nothing price_name quantity_name orders
  side_seen order see nothing price_name quantity_name orders each = λ i. each 0 i ∷ each 1 i ∷ each 2 i ∷ each 3 i ∷ each 4 i ∷ []

  module _ (held : AllHeld laid) where
    -- a number of any kind is read back, and is none where there is no row for it
    pub number_seen : {A : Type 0} {signed : Bool} {of : Held → A} {holds : A → Held} {plain : A → A} → IsNumber signed of holds plain → (name : Name) (a : A)
        → given name ≡ value_of signed (holds a) → of (held_in signed (cell_named rows name laid)) ≡ where_named rows name (plain a) (of Nothing)
    number_seen {A} {signed} {of} {holds} {plain} number name a is = go (row_named rows name) refl
      where
        go : (place : Option ℕ) → row_named rows name ≡ place → of (held_in signed (cell_named rows name laid)) ≡ where_named rows name (plain a) (of Nothing)
        go none e = rw e
        go (some k) e = rw e (ap (λ (c : ℕ). of (held_in signed c)) (found name k e ∙ is) ∙ number_back number a (λ h. held k (found name k e ∙ is ∙ h)))

-- ---- the orders of a side

-- an order of a side stands at its level
pub at_level_lem : {A : Type 0} (nothing : A) (f : ℕ → A) (k : ℕ) → k < most_orders → get_or (map f order_levels) k nothing ≡ f k
at_level_lem nothing f zero h = refl
at_level_lem nothing f (suc zero) h = refl
at_level_lem nothing f (suc (suc zero)) h = refl
at_level_lem nothing f (suc (suc (suc zero))) h = refl
at_level_lem nothing f (suc (suc (suc (suc zero)))) h = refl
at_level_lem nothing f (suc (suc (suc (suc (suc k))))) h = absurd (omega arith)

-- the orders of a side are all there are
pub all_orders : {A : Type 0} (nothing : A) (orders : List A) → length orders ≡ most_orders
    → get_or orders 0 nothing ∷ get_or orders 1 nothing ∷ get_or orders 2 nothing ∷ get_or orders 3 nothing ∷ get_or orders 4 nothing ∷ [] ≡ orders
all_orders nothing [] e = absurd (omega arith)
all_orders nothing (a ∷ []) e = absurd (omega arith)
all_orders nothing (a ∷ b ∷ []) e = absurd (omega arith)
all_orders nothing (a ∷ b ∷ c ∷ []) e = absurd (omega arith)
all_orders nothing (a ∷ b ∷ c ∷ d ∷ []) e = absurd (omega arith)
all_orders nothing (a ∷ b ∷ c ∷ d ∷ f ∷ []) e = refl
all_orders nothing (a ∷ b ∷ c ∷ d ∷ f ∷ g ∷ orders) e = absurd (omega arith)

-- ---- cells as rows see them, by their numbers

-- a word of our own: from row k on
abbrev pub seen_from : ℕ → List Row → List ℕ → List ℕ
seen_from k [] cells = []
seen_from k (row ∷ rows) cells = seen_value row (get_or cells k 0) ∷ seen_from (suc k) rows cells

pub seen_from_lem : (k : ℕ) (rows : List Row) (cells : List ℕ) → seen_values rows (drop k cells) ≡ seen_from k rows cells
seen_from_lem k [] cells = refl
seen_from_lem k (row ∷ rows) cells =
    let here : k + 0 ≡ k = omega arith in
    let one : k + 1 ≡ suc k = omega arith in
    rw (get_or-drop k cells 0 0, drop-drop 1 k cells, here, one, seen_from_lem (suc k) rows cells)
