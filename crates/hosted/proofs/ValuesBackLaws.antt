-- The values of what was written are those that were handed, from the first row behind the key on; minus zero is zero.
use Rattle.std.specs.Prelude.{ℕ, ◌+◌, ◌-◌, ◌≤◌, ◌<◌, ◌^◌, ◌≡◌, Bool, true, false, List, eqb, leb, ltb, length, drop, Option, Some, None, Ok}
use Rattle.std.proofs.Math.Path.{refl}
use Rattle.std.proofs.Common.{subst, ⊎_elim, arith, lt-ltb, le-ltb, ne_eqb, get_or-drop}
use Rattle.std.proofs.Math.ListN.{get_or}
use Rattle.laws.specs.Order.{order, same}
use Rattle.decimal.specs.Denotes.{below_zero}
use Rattle.forms.specs.declared.forms.Item.TheVariants.{Contract, Pair}
use Rattle.forms.specs.declared.rows.Level.{Level}
use Rattle.forms.specs.declared.rows.Level.TheVariants.{One, Two}
use Rattle.forms.specs.declared.forms.Form.{Form}
use Rattle.forms.specs.declared.forms.Form.TheVariants.{Heartbeat, LevelOne, LevelTwo, PairOne, PairTwo, FutureOne, FutureTwo, PreOpenOne, PreOpenTwo}
use Rattle.forms.specs.declared.forms.Subject.{Subject}
use Rattle.forms.specs.declared.forms.Subject.TheVariants.{Nothing, Of}
use Rattle.forms.specs.declared.rows.Markets.TheVariants.{Normal, Any}
use Rattle.forms.specs.Forms.{named_rows, rows_of, subject_of}
use Rattle.layout.specs.Cells.{sided}
use Rattle.layout.specs.Read.{is_market_type, is_status}
use Rattle.compose.specs.Write.{letter_text, row_text, write_rows, write_refusal}
use Rattle.compose.specs.FirstBad.{refusal_written}
use Rattle.compose.specs.FirstBadLaws.{write_first}
use Rattle.amount.specs.declared.difference.Difference.{Difference}
use Rattle.quote.specs.Quote.{price_of, quantity_of, turnover_of, values_of, seen_quote}
use Rattle.spread.specs.Spread.{difference_of, plain_zero, seen_spread}
use Rattle.quote.specs.Shows.{held_price, held_quantity, held_turnover}
use Rattle.spread.specs.Shows.{held_difference}
use Rattle.quote.specs.NumberLaws.{price_number, quantity_number, turnover_number, cell_held}
use Rattle.spread.proofs.NumberLaws.{difference_number}
use Rattle.layout.specs.Plain.{no_value, minus_value, value_of, held_of, letter_of}
use Rattle.layout.specs.PlainLaws.{value_back_lem}
use Rattle.values.specs.Values.{first, value_rows, row_values, quote_in, spread_values, spread_in}
use Rattle.hosted.specs.HostReadBack.{rows_in}

seen_difference : (d : Option Difference) → held_difference (plain_zero d) ≡ held_difference d
seen_difference None = refl
seen_difference (Some amount) = go amount.0 (eqb amount.1 0) refl
  where
    go : (below none : Bool) → eqb amount.1 0 ≡ none → sided (below_zero below amount.1) amount.1 ≡ sided below amount.1
    go true true t = rw t
    go true false t = rw t
    go false none t = refl

-- each number holds what its value stands for
price_held : (v : ℕ) → held_price (price_of (held_of false v)) ≡ held_of false v
price_held v = cell_held price_number v

quantity_held : (v : ℕ) → held_quantity (quantity_of (held_of false v)) ≡ held_of false v
quantity_held v = cell_held quantity_number v

turnover_held : (v : ℕ) → held_turnover (turnover_of (held_of false v)) ≡ held_of false v
turnover_held v = cell_held turnover_number v

difference_held : (v : ℕ) → held_difference (difference_of (held_of true v)) ≡ held_of true v
difference_held v = cell_held difference_number v

-- a letter that is written is a byte: none is 0, which a larger number counts as
letter_back : (taken : ℕ → Bool) → taken 0 ≡ false → (v : ℕ) → write_refusal (letter_text taken (letter_of v)) ≡ 0 → letter_of v ≡ v
letter_back taken none_taken v good = go (leb v 255) refl
  where
    go : (byte : Bool) → leb v 255 ≡ byte → letter_of v ≡ v
    go true t = rw t
    go false t = absurd (let bad : 11 ≡ 0 = rw (t, none_taken) at good in omega arith)

-- values whose rows can be written in a form
abbrev pub Writable : Form → Level → List ℕ → List ℕ → Type 0
Writable form level key values = (write_rows 0 (rows_of form) key (values_of form (quote_in level values))).verdict ≡ Ok tt

module _ (key values : List ℕ) where
  abbrev vs : List ℕ
  vs = drop (first Contract) values

  row_written : (form : Form) (level : Level) → Writable form level key values → (k : ℕ) → k < length (rows_of form)
      → refusal_written (rows_of form) key (values_of form (quote_in level values)) k ≡ 0
  row_written form level good = rw good at (write_first (rows_of form) key (values_of form (quote_in level values)))

  -- what a form of a contract sees of the quote that values hold has these values
  abbrev Seen : Subject → Form → Type 0
  Seen Nothing form = Unit {0}
  Seen (Of Contract level) form = Writable form level key values → row_values level (seen_quote form (quote_in level values)) ≡ rows_in Contract form level values
  Seen (Of Pair level) form = Unit {0}

  values_held : (form : Form) → Seen (subject_of form) form
  unfolding row_values value_rows named_rows quote_in rows_of values_of row_text seen_quote
  values_held Heartbeat = tt
  values_held PairOne = tt
  values_held PairTwo = tt
  values_held LevelOne = λ good.
      let market : letter_of (get_or vs 0 0) ≡ get_or vs 0 0 = letter_back (is_market_type Normal) refl (get_or vs 0 0) (row_written LevelOne One good 5 (omega arith)) in
      let status : letter_of (get_or vs 8 0) ≡ get_or vs 8 0 = letter_back is_status refl (get_or vs 8 0) (row_written LevelOne One good 12 (omega arith)) in
      simp (price_held, quantity_held, turnover_held, value_back_lem, market, status) (simp get_or-drop)
  values_held LevelTwo = λ good.
      let market : letter_of (get_or vs 0 0) ≡ get_or vs 0 0 = letter_back (is_market_type Normal) refl (get_or vs 0 0) (row_written LevelTwo Two good 5 (omega arith)) in
      let status : letter_of (get_or vs 24 0) ≡ get_or vs 24 0 = letter_back is_status refl (get_or vs 24 0) (row_written LevelTwo Two good 28 (omega arith)) in
      simp (price_held, quantity_held, turnover_held, value_back_lem, market, status) (simp get_or-drop)
  values_held FutureOne = λ good.
      let market : letter_of (get_or vs 0 0) ≡ get_or vs 0 0 = letter_back (is_market_type Any) refl (get_or vs 0 0) (row_written FutureOne One good 5 (omega arith)) in
      let status : letter_of (get_or vs 8 0) ≡ get_or vs 8 0 = letter_back is_status refl (get_or vs 8 0) (row_written FutureOne One good 13 (omega arith)) in
      simp (price_held, quantity_held, turnover_held, value_back_lem, market, status) (simp get_or-drop)
  values_held FutureTwo = λ good.
      let market : letter_of (get_or vs 0 0) ≡ get_or vs 0 0 = letter_back (is_market_type Any) refl (get_or vs 0 0) (row_written FutureTwo Two good 5 (omega arith)) in
      let status : letter_of (get_or vs 24 0) ≡ get_or vs 24 0 = letter_back is_status refl (get_or vs 24 0) (row_written FutureTwo Two good 29 (omega arith)) in
      simp (price_held, quantity_held, turnover_held, value_back_lem, market, status) (simp get_or-drop)
  values_held PreOpenOne = λ good.
      let market : letter_of (get_or vs 0 0) ≡ get_or vs 0 0 = letter_back (is_market_type Any) refl (get_or vs 0 0) (row_written PreOpenOne One good 5 (omega arith)) in
      let status : letter_of (get_or vs 8 0) ≡ get_or vs 8 0 = letter_back is_status refl (get_or vs 8 0) (row_written PreOpenOne One good 13 (omega arith)) in
      simp (price_held, quantity_held, turnover_held, value_back_lem, market, status) (simp get_or-drop)
  values_held PreOpenTwo = λ good.
      let market : letter_of (get_or vs 0 0) ≡ get_or vs 0 0 = letter_back (is_market_type Any) refl (get_or vs 0 0) (row_written PreOpenTwo Two good 5 (omega arith)) in
      let status : letter_of (get_or vs 24 0) ≡ get_or vs 24 0 = letter_back is_status refl (get_or vs 24 0) (row_written PreOpenTwo Two good 29 (omega arith)) in
      simp (price_held, quantity_held, turnover_held, value_back_lem, market, status) (simp get_or-drop)

  pub values_seen : (form : Form) (level : Level) → subject_of form ≡ Of Contract level → Writable form level key values → row_values level (seen_quote form (quote_in level values)) ≡ rows_in Contract form level values
  values_seen form level e = subst (λ (subject : Subject). Seen subject form) e (values_held form)

-- the same of a pair, whose rows have no letters
module _ (values : List ℕ) where
  abbrev SeenSpread : Subject → Form → Type 0
  SeenSpread Nothing form = Unit {0}
  SeenSpread (Of Contract level) form = Unit {0}
  SeenSpread (Of Pair level) form = spread_values level (seen_spread form (spread_in level values)) ≡ rows_in Pair form level values

  spread_values_held : (form : Form) → SeenSpread (subject_of form) form
  unfolding spread_values value_rows named_rows spread_in seen_spread
  spread_values_held Heartbeat = tt
  spread_values_held LevelOne = tt
  spread_values_held LevelTwo = tt
  spread_values_held PairOne = simp (seen_difference, difference_held, quantity_held, value_back_lem) (simp get_or-drop)
  spread_values_held PairTwo = simp (seen_difference, difference_held, quantity_held, value_back_lem) (simp get_or-drop)
  spread_values_held FutureOne = tt
  spread_values_held FutureTwo = tt
  spread_values_held PreOpenOne = tt
  spread_values_held PreOpenTwo = tt

  pub spread_values_seen : (form : Form) (level : Level) → subject_of form ≡ Of Pair level → spread_values level (seen_spread form (spread_in level values)) ≡ rows_in Pair form level values
  spread_values_seen form level e = subst (λ (subject : Subject). SeenSpread subject form) e (spread_values_held form)

-- a price of a pair reads back as it was handed, minus zero as zero
pub difference_back : (v : ℕ) → v < 2 ^ 64 → (v ≡ minus_value → ⊥) → value_of true (held_of true v) ≡ v
difference_back v fits no_zero =
    ⊎_elim (λ (e : v ≡ no_value). rw e refl)
    (λ (e : v ≡ no_value → ⊥).
    ⊎_elim (λ (up : minus_value ≤ v).
    let some : eqb (v - minus_value) 0 ≡ false = ne_eqb (v - minus_value) 0 (λ z. no_zero (omega arith)) in
    let room : ltb (v - minus_value) (minus_value - 1) ≡ true = lt-ltb (v - minus_value) (minus_value - 1) (omega arith) in
    let all : minus_value + (v - minus_value) ≡ v = omega arith in
    simp (ne_eqb v no_value e, le-ltb v minus_value up, some, room) all)
    (λ (low : v < minus_value). simp (ne_eqb v no_value e, lt-ltb v minus_value low))
    (order minus_value v))
    (same v no_value)

pub minus_zero_back : value_of true (held_of true minus_value) ≡ 0
minus_zero_back = refl
