-- A row is refused 11 exactly where it is malformed, and 12 exactly where it is out of range.
use Rattle.std.specs.Prelude.{ℕ, zero, suc, ◌+◌, ◌-◌, ◌≤◌, ◌<◌, ◌≡◌, refl, Bool, true, false, cond, ◌&&◌, ◌⊎◌, ◌↔◌, List, [], ◌∷◌, ◌++◌, map, leb, eqb, length, get_or, take, Option, Some, None}
use Rattle.std.proofs.Common.{ap, sym, subst, ◌∙◌, true≢false, inl, inr, ⊎_elim, arith, le-leb, lt-ltb, le-ltb, ne_eqb, lit<, length-drop, get_or-take, length-take-le}
use Rattle.std.proofs.lemmas.Bool.{false≢true, lt-leb, eqb-false}
use Rattle.std.proofs.Math.Logic.Iff
use Rattle.std.proofs.lemmas.List.{length-map}
use Rattle.std.proofs.Math.ListN.{get_or-map, get_or-append}
use Rattle.laws.specs.Tests.{and_false, conj, eqb_is, or_is}
use Rattle.laws.specs.Order.{order, same}
use Rattle.decimal.specs.declared.Kind.{Kind}
use Rattle.decimal.specs.Kinds.{price, quantity, turnover, difference}
use Rattle.print.specs.Write.{written_as, Written, filled, refused}
use Rattle.print.proofs.WriteTexts.{refuses}
use Rattle.print.specs.WriteLaws.{Refused, sideless}
use Rattle.decimal.specs.declared.Held.{Held}
use Rattle.decimal.specs.declared.Held.TheVariants.{Nothing, Units, Below}
use Rattle.quote.specs.declared.quote.Quote.{Quote}
use Rattle.amount.specs.declared.price.Price.{Price as PriceUnits}
use Rattle.amount.specs.declared.quantity.Quantity.{Quantity as QuantityUnits}
use Rattle.amount.specs.declared.turnover.Turnover.{Turnover as TurnoverUnits}
use Rattle.amount.specs.declared.difference.Difference.{Difference as DifferenceUnits}
use Rattle.spread.specs.declared.spread.SpreadQuote.{SpreadQuote}
use Rattle.forms.specs.declared.rows.Level.{Level}
use Rattle.forms.specs.declared.forms.Form.{Form}
use Rattle.forms.specs.declared.forms.Form.TheVariants.{Heartbeat, LevelOne, LevelTwo, PairOne, PairTwo, FutureOne, FutureTwo, PreOpenOne, PreOpenTwo}
use Rattle.forms.specs.declared.forms.Item.{Item}
use Rattle.forms.specs.declared.forms.Item.TheVariants.{Contract, Pair}
use Rattle.forms.specs.declared.forms.Subject.{Subject}
use Rattle.forms.specs.declared.forms.Subject.TheVariants.{Nothing as NoSubject, Of}
use Rattle.forms.specs.declared.rows.Markets.{Markets}
use Rattle.forms.specs.declared.rows.Markets.TheVariants.{Normal, Any}
use Rattle.forms.specs.declared.rows.Row.{Row}
use Rattle.forms.specs.declared.rows.Row.TheVariants.{Key, MarketType, Status, Price, Quantity, Turnover, Difference}
use Rattle.layout.specs.Cells.{minus, sided, key_used}
use Rattle.layout.specs.Plain.{no_value, no_room, value_of, held_of as held_by}
use Rattle.layout.specs.CellsLaws.{MayHold}
use Rattle.layout.specs.PlainLaws.{held_back, has_value}
use Rattle.compose.specs.FirstBad.{refusal_written}
use Rattle.layout.specs.Says.{IsMarketType, row_at}
use Rattle.quote.specs.Quote.{field_value, values_by, values_of, value_of_price, value_of_quantity, value_of_turnover}
use Rattle.spread.specs.Spread.{spread_field_value, spread_values_of, value_of_difference}
use Rattle.layout.specs.Read.{is_market_type, is_status}
use Rattle.forms.specs.Forms.{named_rows, rows_of, subject_of, is_stamped, key_bytes_of, is_asked}
use Rattle.forms.specs.Names.{Name, NamedRow, named, instrument}
use Rattle.forms.specs.Rows.{total}
use Rattle.forms.specs.Sizes.{key_row_count}
use Rattle.compose.specs.Write.{RowText, text, malformed, out_of_range, of_written, held_text, row_text, write_refusal}
use Rattle.wire.specs.Bytes.{printable, all_printable}
use Rattle.writer.specs.declared.writing.Code.{Code}
use Rattle.writer.specs.Chosen.{form_written}
use Rattle.written.specs.WrittenFormLaws.{asked_so}
use Rattle.written.specs.WrittenRefusals.{Value, letter, nothing, amount, price_given, quantity_given, turnover_given, difference_given, field_given, spread_field_given, byte_of, Outside, Malformed, Unwritable, OutOfRange, value_at, part_at, MalformedAt, OutOfRangeAt, Fine}

-- ---- the plain numbers of a quote are those of what it gives each row

-- a value as a number
abbrev pub held_of : Value → Held
held_of (letter byte) = Nothing
held_of nothing = Nothing
held_of (amount minus n) = sided minus n

-- the plain number that a row is written from
abbrev pub plain_in : Row → Value → ℕ
plain_in (Key width) value = 0
plain_in (MarketType markets) value = byte_of value
plain_in Status value = byte_of value
plain_in (Price width) value = value_of false (held_of value)
plain_in (Quantity width) value = value_of false (held_of value)
plain_in (Turnover width) value = value_of false (held_of value)
plain_in (Difference width) value = value_of true (held_of value)

-- what a message of a contract or a pair is written from, row by row
pub record Given (item : Item) (form : Form) (given : Name → Value) (values : List ℕ) : Type 0 where
  pub key_enough : total key_used (rows_of form) ≤ key_bytes_of item
  pub plain_at : (k : ℕ) → k < length (rows_of form) → get_or values k 0 ≡ plain_in (row_at (rows_of form) k) (value_at form given k)

abbrev plain_given : Form → (Name → Value) → List ℕ
plain_given form given = map (λ (row : NamedRow). plain_in row.row (given row.name)) (named_rows form)

-- row by row, where all of them are
plains_at : (form : Form) (given : Name → Value) (values behind : List ℕ) → values ≡ plain_given form given → (k : ℕ) → k < length (rows_of form)
    → get_or (values ++ behind) k 0 ≡ plain_in (row_at (rows_of form) k) (value_at form given k)
unfolding rows_of
plains_at form given values behind e k h =
    let plain : NamedRow → ℕ = λ (row : NamedRow). plain_in row.row (given row.name) in
    let long : length (plain_given form given) ≡ length (rows_of form) =
    length-map (named_rows form) plain ∙ sym (length-map (named_rows form) (λ (row : NamedRow). row.row)) in
    ap (λ (c : List ℕ). get_or (c ++ behind) k 0) e
    ∙ get_or-append (plain_given form given) behind 0 k (omega arith)
    ∙ get_or-map plain (named_rows form) k (named instrument (Key 0))
    ∙ ap (λ (row : Row). plain_in row (value_at form given k)) (sym (get_or-map (λ (row : NamedRow). row.row) (named_rows form) k (named instrument (Key 0))))

price_given_lem : (p : Option PriceUnits) → value_of_price p ≡ value_of false (held_of (price_given p))
price_given_lem None = refl
price_given_lem (Some units) = refl

quantity_given_lem : (q : Option QuantityUnits) → value_of_quantity q ≡ value_of false (held_of (quantity_given q))
quantity_given_lem None = refl
quantity_given_lem (Some units) = refl

turnover_given_lem : (t : Option TurnoverUnits) → value_of_turnover t ≡ value_of false (held_of (turnover_given t))
turnover_given_lem None = refl
turnover_given_lem (Some units) = refl

difference_given_lem : (d : Option DifferenceUnits) → value_of_difference d ≡ value_of true (held_of (difference_given d))
difference_given_lem None = refl
difference_given_lem (Some units) = refl

contract_plain : (form : Form) (level : Level) → is_asked (subject_of form) Contract level ≡ true → (quote : Quote)
    → (total key_used (rows_of form) ≤ key_bytes_of Contract) × (values_by (named_rows form) (field_value quote) ≡ plain_given form (field_given quote))
unfolding rows_of named_rows
contract_plain Heartbeat level is quote = (omega arith, refl)
contract_plain LevelOne level is quote = (omega arith, simp (price_given_lem, quantity_given_lem, turnover_given_lem))
contract_plain LevelTwo level is quote = (omega arith, simp (price_given_lem, quantity_given_lem, turnover_given_lem))
contract_plain PairOne level is quote = absurd (false≢true is)
contract_plain PairTwo level is quote = absurd (false≢true is)
contract_plain FutureOne level is quote = (omega arith, simp (price_given_lem, quantity_given_lem, turnover_given_lem))
contract_plain FutureTwo level is quote = (omega arith, simp (price_given_lem, quantity_given_lem, turnover_given_lem))
contract_plain PreOpenOne level is quote = (omega arith, simp (price_given_lem, quantity_given_lem, turnover_given_lem))
contract_plain PreOpenTwo level is quote = (omega arith, simp (price_given_lem, quantity_given_lem, turnover_given_lem))

pair_plain : (form : Form) (level : Level) → is_asked (subject_of form) Pair level ≡ true → (quote : SpreadQuote)
    → (total key_used (rows_of form) ≤ key_bytes_of Pair) × (values_by (named_rows form) (spread_field_value quote) ≡ plain_given form (spread_field_given quote))
unfolding rows_of named_rows
pair_plain Heartbeat level is quote = absurd (false≢true is)
pair_plain LevelOne level is quote = absurd (false≢true is)
pair_plain LevelTwo level is quote = absurd (false≢true is)
pair_plain PairOne level is quote = (omega arith, simp (difference_given_lem, quantity_given_lem))
pair_plain PairTwo level is quote = (omega arith, simp (difference_given_lem, quantity_given_lem))
pair_plain FutureOne level is quote = absurd (false≢true is)
pair_plain FutureTwo level is quote = absurd (false≢true is)
pair_plain PreOpenOne level is quote = absurd (false≢true is)
pair_plain PreOpenTwo level is quote = absurd (false≢true is)

-- a contract's market type is the row behind its key
abbrev MarketRow : Subject → Form → Type 0
MarketRow NoSubject form = Unit {0}
MarketRow (Of Contract level) form = (row_at (rows_of form) key_row_count ≡ MarketType (cond (is_stamped form) Any Normal)) × ((quote : Quote) → get_or (values_of form quote) key_row_count 0 ≡ quote.market_type)
MarketRow (Of Pair level) form = Unit {0}

market_behind : (form : Form) → MarketRow (subject_of form) form
unfolding rows_of named_rows values_of
market_behind Heartbeat = tt
market_behind LevelOne = (refl, λ quote. refl)
market_behind LevelTwo = (refl, λ quote. refl)
market_behind PairOne = tt
market_behind PairTwo = tt
market_behind FutureOne = (refl, λ quote. refl)
market_behind FutureTwo = (refl, λ quote. refl)
market_behind PreOpenOne = (refl, λ quote. refl)
market_behind PreOpenTwo = (refl, λ quote. refl)

pub market_row : (form : Form) (level : Level) → subject_of form ≡ Of Contract level → MarketRow (Of Contract level) form
market_row form level s = subst (λ (subject : Subject). MarketRow subject form) s (market_behind form)

module _ (code : Code) (level : Level) (form : Form) where
  -- a contract's message is written from the fields of its quote
  pub contract_given : form_written Contract code level ≡ Some form → (quote : Quote) → Given Contract form (field_given quote) (values_of form quote)
  unfolding values_of
  contract_given chose quote =
      let own = contract_plain form level (asked_so code.0 code.1 Contract level form chose) quote in
      record { key_enough = own.0; plain_at = plains_at form (field_given quote) (values_by (named_rows form) (field_value quote)) _ own.1 }

  -- and a pair's from those of its own
  pub pair_given : form_written Pair code level ≡ Some form → (quote : SpreadQuote) → Given Pair form (spread_field_given quote) (spread_values_of form quote)
  unfolding spread_values_of
  pair_given chose quote =
      let own = pair_plain form level (asked_so code.0 code.1 Pair level form chose) quote in
      record { key_enough = own.0; plain_at = plains_at form (spread_field_given quote) (values_by (named_rows form) (spread_field_value quote)) _ own.1 }

-- ---- a part of the key

out_bad : (byte : ℕ) → Outside byte → printable byte ≡ false
out_bad byte (inl h) = simp (lt-leb 32 byte h)
out_bad byte (inr h) = simp (lt-leb byte 126 h) (and_false (leb 32 byte))

byte_either : (byte : ℕ) → (printable byte ≡ true) ⊎ Outside byte
byte_either byte =
    ⊎_elim (λ (l : 32 ≤ byte).
    ⊎_elim (λ (h : byte ≤ 126). inl (conj (leb 32 byte) (leb byte 126) (le-leb 32 byte l) (le-leb byte 126 h)))
    (λ (h : 126 < byte). inr (inr h))
    (order byte 126))
    (λ (l : byte < 32). inr (inl l))
    (order 32 byte)

bad_there : (l : List ℕ) → all_printable l ≡ false → (b : ℕ) × (b < length l) × Outside (get_or l b 0)
bad_there [] e = absurd (true≢false e)
bad_there (c ∷ l) e = go (byte_either c) (bad_there l)
  where
    go : (printable c ≡ true) ⊎ Outside c → (all_printable l ≡ false → (b : ℕ) × (b < length l) × Outside (get_or l b 0))
        → (b : ℕ) × (b < length (c ∷ l)) × Outside (get_or (c ∷ l) b 0)
    go (inl p) later =
        let rest = later (sym (ap (λ (t : Bool). t && all_printable l) p) ∙ e) in
        let inside = rest.1 in
        (suc rest.0, omega arith, rest.2)
    go (inr o) later = (0, omega arith, o)

bad_found : (l : List ℕ) (b : ℕ) → b < length l → Outside (get_or l b 0) → all_printable l ≡ false
bad_found [] b h o = absurd (omega arith)
bad_found (c ∷ l) zero h o = ap (λ (t : Bool). t && all_printable l) (out_bad c o)
bad_found (c ∷ l) (suc b) h o = ap (λ (t : Bool). printable c && t) (bad_found l b (omega arith) o) ∙ and_false (printable c)

-- ---- what is refused, and with which number

-- a test fails exactly where what it tests does not hold
fails : {A : Type 0} {t : Bool} → t ≡ true ↔ A → t ≡ false ↔ (A → ⊥)
fails {t = true} is = ((λ e. absurd (true≢false e)), (λ no. absurd (no (is.0 refl))))
fails {t = false} is = ((λ e a. false≢true (is.1 a)), (λ no. refl))

market_is : (markets : Markets) (byte : ℕ) → is_market_type markets byte ≡ true ↔ IsMarketType markets byte
market_is Normal byte = eqb_is byte 78
market_is Any byte = or_is (eqb_is byte 78) (or_is (eqb_is byte 79) (or_is (eqb_is byte 83) (eqb_is byte 65)))

-- a text, or malformed
module _ (t : List ℕ) where
  tested : (b : Bool) → write_refusal (cond b (text t) malformed) ≡ 11 ↔ b ≡ false
  tested true = ((λ e. absurd (omega arith)), (λ e. absurd (true≢false e)))
  tested false = ((λ e. refl), (λ e. refl))

  tested_in_range : (b : Bool) → write_refusal (cond b (text t) malformed) ≡ 12 → ⊥
  tested_in_range true e = omega arith
  tested_in_range false e = omega arith

-- a number is filled in or out of range
of_written_lem : (w : Written) → write_refusal (of_written w) ≡ 12 ↔ w ≡ refused
of_written_lem (filled characters) = ((λ e. absurd (omega arith)), (λ e. absurd (let z : ◌≡◌ {A = ℕ} 0 1 = cc in omega arith)))
of_written_lem refused = ((λ e. refl), (λ e. refl))

well_formed : (w : Written) → write_refusal (of_written w) ≡ 11 → ⊥
well_formed (filled characters) e = omega arith
well_formed refused e = omega arith

-- why a number is refused
abbrev pub Refuses : Kind → ℕ → Held → Type 0
Refuses kind width Nothing = ⊥
Refuses kind width (Units n) = Refused kind width false n
Refuses kind width (Below n) = Refused kind width true n

module _ (kind : Kind) (width : ℕ) where
  pub held_exact : (held : Held) → write_refusal (held_text kind width held) ≡ 12 ↔ Refuses kind width held
  held_exact Nothing = ((λ e. omega arith), (λ e. absurd e))
  held_exact (Units n) = Iff.trans (of_written_lem (written_as kind width false n)) (refuses kind width false n)
  held_exact (Below n) = Iff.trans (of_written_lem (written_as kind width true n)) (refuses kind width true n)

  held_formed : (held : Held) → write_refusal (held_text kind width held) ≡ 11 → ⊥
  held_formed Nothing e = omega arith
  held_formed (Units n) e = well_formed (written_as kind width false n) e
  held_formed (Below n) e = well_formed (written_as kind width true n) e

  module _ (small : kind.most < minus - 2) where
    -- the value of an amount that has none of its own is as far out of range as the amount
    pub far : (signed : Bool) → Refuses kind width (held_by signed no_room)
    far true = inl (omega arith)
    far false = inl (omega arith)

    -- a number that has a value is the one that its value stands for
    held_kept : (signed : Bool) (held : Held) (n : ℕ) → MayHold signed held → (n < minus - 2 → value_of signed held ≡ no_room → ⊥) → (kind.most < n → Refuses kind width held)
        → Refuses kind width (held_by signed (value_of signed held)) ↔ Refuses kind width held
    held_kept signed held n may has over =
        ⊎_elim (λ (e : value_of signed held ≡ no_room).
        let out : Refuses kind width held = ⊎_elim (λ (l : minus - 2 ≤ n). over (omega arith)) (λ (l : n < minus - 2). absurd (has l e)) (order (minus - 2) n) in
        rw e ((λ u. out), (λ u. far signed)))
        (λ (e : value_of signed held ≡ no_room → ⊥). rw (held_back signed held may e) ((λ u. u), (λ u. u)))
        (same (value_of signed held) no_room)

    units_kept : (signed : Bool) (n : ℕ) → Refuses kind width (held_by signed (value_of signed (Units n))) ↔ Refuses kind width (Units n)
    units_kept signed n = held_kept signed (Units n) n tt (λ l e. omega (arith, has_value signed (Units n) l)) (λ l. inl l)

    below_kept : (n : ℕ) → 0 < n → Refuses kind width (held_by true (value_of true (Below n))) ↔ Refuses kind width (Below n)
    below_kept n some = held_kept true (Below n) n (refl, some) (λ l e. omega (arith, has_value true (Below n) l)) (λ l. inl l)

    -- where a kind has no sign, what is below zero is refused
    pub unsigned : (n : ℕ) → Refuses kind width (held_by false (value_of false (Below n)))
    unsigned n =
        ⊎_elim (λ (l : minus - 1 ≤ n). simp (le-ltb n (minus - 1) l) (far false))
        (λ (l : n < minus - 1). simp (lt-ltb n (minus - 1) l, ne_eqb (minus + n) no_value (λ e. omega arith)) (inl (omega arith)))
        (order (minus - 1) n)

    amount_exact : (signed : Bool) → kind.signed ≡ signed → (given : Bool) (n : ℕ)
        → Refuses kind width (held_by signed (value_of signed (sided given n))) ↔ Unwritable kind width (amount given n)
    amount_exact signed is false n = units_kept signed n
    amount_exact signed is true n = go signed is (eqb n 0) refl
      where
        go : (signed : Bool) → kind.signed ≡ signed → (zero : Bool) → eqb n 0 ≡ zero
            → Refuses kind width (held_by signed (value_of signed (sided true n))) ↔ Unwritable kind width (amount true n)
        go signed is true z = rw z (units_kept signed n)
        go true is false z = rw z (rw z at (below_kept n (omega (arith, eqb-false n 0 z))))
        go false is false z =
            let out : Unwritable kind width (amount true n) = (refuses kind width true n).0 (sideless kind width true n (rw (z, is))) in
            let held_out : Refuses kind width (held_by false (value_of false (sided true n))) = rw z (unsigned n) in
            ((λ u. out), (λ u. held_out))

    value_exact : (value : Value) → write_refusal (held_text kind width (held_by kind.signed (value_of kind.signed (held_of value)))) ≡ 12 ↔ Unwritable kind width value
    value_exact value = Iff.trans (held_exact (held_by kind.signed (value_of kind.signed (held_of value)))) (by value)
      where
        by : (value : Value) → Refuses kind width (held_by kind.signed (value_of kind.signed (held_of value))) ↔ Unwritable kind width value
        by (letter byte) = ((λ u. u), (λ u. u))
        by nothing = ((λ u. u), (λ u. u))
        by (amount given n) = amount_exact kind.signed refl given n

-- ---- a row

row_range : (row : Row) (part : List ℕ) (value : Value) → write_refusal (row_text row part (plain_in row value)) ≡ 12 ↔ OutOfRange row value
unfolding row_text
row_range (Key width) part value = (tested_in_range (take width part) (leb width (length part) && all_printable (take width part)), (λ e. absurd e))
row_range (MarketType markets) part value = (tested_in_range (byte_of value ∷ []) (is_market_type markets (byte_of value)), (λ e. absurd e))
row_range Status part value = (tested_in_range (byte_of value ∷ []) (is_status (byte_of value)), (λ e. absurd e))
row_range (Price width) part value = value_exact price width (lit< tt) value
row_range (Quantity width) part value = value_exact quantity width (lit< tt) value
row_range (Turnover width) part value = value_exact turnover width (lit< tt) value
row_range (Difference width) part value = value_exact difference width (lit< tt) value

row_field : (row : Row) (part : List ℕ) (value : Value) → key_used row ≤ length part
    → write_refusal (row_text row part (plain_in row value)) ≡ 11 ↔ Malformed row part value
unfolding row_text
row_field (Key width) part value has =
    let long = length-take-le width part has in
    Iff.trans (tested (take width part) (leb width (length part) && all_printable (take width part))) (
      (λ e.
          let found = bad_there (take width part) (sym (ap (λ (t : Bool). t && all_printable (take width part)) (le-leb width (length part) has)) ∙ e) in
          let inside = found.1 in
          let near : found.0 < width = omega arith in
          (found.0, near, rw (get_or-take width part found.0 0 near) at found.2)),
      (λ m.
          let near = m.1 in
          ap (λ (t : Bool). leb width (length part) && t)
          (bad_found (take width part) m.0 (omega arith) (rw (get_or-take width part m.0 0 near) m.2))
          ∙ and_false (leb width (length part))),
    )
row_field (MarketType markets) part value has =
    Iff.trans (tested (byte_of value ∷ []) (is_market_type markets (byte_of value))) (fails (market_is markets (byte_of value)))
row_field Status part value has =
    Iff.trans (tested (byte_of value ∷ []) (is_status (byte_of value))) (fails (or_is (eqb_is (byte_of value) 83) (eqb_is (byte_of value) 32)))
row_field (Price width) part value has = (held_formed price width (held_by false (value_of false (held_of value))), (λ e. absurd e))
row_field (Quantity width) part value has = (held_formed quantity width (held_by false (value_of false (held_of value))), (λ e. absurd e))
row_field (Turnover width) part value has = (held_formed turnover width (held_by false (value_of false (held_of value))), (λ e. absurd e))
row_field (Difference width) part value has = (held_formed difference width (held_by true (value_of true (held_of value))), (λ e. absurd e))

-- ---- a row of a form

-- a row's part of the key is there
used_before : (rows : List Row) (k : ℕ) → k < length rows → total key_used (take k rows) + key_used (row_at rows k) ≤ total key_used rows
used_before [] k h = absurd (omega arith)
used_before (row ∷ rows) zero h = omega arith
used_before (row ∷ rows) (suc k) h = omega (arith, used_before rows k (omega arith))

module _ (item : Item) (form : Form) (key values : List ℕ) (given : Name → Value) (from : Given item form given values) (key_long : length key ≡ key_bytes_of item) (k : ℕ)
    (inside : k < length (rows_of form))
  where
    abbrev row : Row
    row = row_at (rows_of form) k

    abbrev refusal : ℕ
    refusal = refusal_written (rows_of form) key values k

    part_there : key_used row ≤ length (part_at form key k)
    part_there =
        let used = used_before (rows_of form) k inside in
        let all = from.key_enough in
        omega (arith, length-drop (total key_used (take k (rows_of form))) key)

    refusal_is : refusal ≡ write_refusal (row_text row (part_at form key k) (plain_in row (value_at form given k)))
    refusal_is = ap (λ (plain : ℕ). write_refusal (row_text row (part_at form key k) plain)) (from.plain_at k inside)

    pub field_exact : refusal ≡ 11 ↔ MalformedAt form key given k
    field_exact = rw refusal_is (row_field row (part_at form key k) (value_at form given k) part_there)

    pub range_exact : refusal ≡ 12 ↔ OutOfRangeAt form given k
    range_exact = rw refusal_is (row_range row (part_at form key k) (value_at form given k))

    -- a row is not refused exactly where nothing is wrong with it
    pub fine_exact : refusal ≡ 0 ↔ Fine form key given k
    fine_exact = (
      (λ e. ((λ m. omega (arith, field_exact.1 m)), (λ r. omega (arith, range_exact.1 r)))),
      (λ f. by (row_text row (part_at form key k) (get_or values k 0)) (λ e. f.0 (field_exact.0 e)) (λ e. f.1 (range_exact.0 e))),
    )
      where
        by : (t : RowText) → (write_refusal t ≡ 11 → ⊥) → (write_refusal t ≡ 12 → ⊥) → write_refusal t ≡ 0
        by (text characters) formed ranged = refl
        by malformed formed ranged = absurd (formed refl)
        by out_of_range formed ranged = absurd (ranged refl)
