-- Where a row has a text: what it is, and that it is as wide as the row.
use Rattle.std.specs.Prelude.{ℕ, ◌-◌, ◌≤◌, ◌<◌, ◌≡◌, refl, Bool, true, false, cond, ◌&&◌, ◌||◌, List, [], ◌∷◌, leb, eqb, length, take}
use Rattle.std.proofs.Common.{ap, ◌∙◌, arith, leb-true, eqb-true, length-take-le, ⊎_elim}
use Rattle.std.proofs.Math.Bool.{and-eq-true_iff}
use Rattle.std.proofs.lemmas.List.{length-replicate}
use Rattle.laws.specs.Tests.{eqb_is, or_is}
use Rattle.decimal.specs.Denotes.{space}
use Rattle.print.specs.Write.{Written, filled, refused, blank_text}
use Rattle.print.proofs.WriteTexts.{fills_right}
use Rattle.decimal.specs.declared.Held.{Held}
use Rattle.decimal.specs.declared.Held.TheVariants.{Nothing, Units, Below}
use Rattle.forms.specs.declared.rows.Markets.{Markets}
use Rattle.forms.specs.declared.rows.Markets.TheVariants.{Normal, Any}
use Rattle.forms.specs.declared.rows.Row.{Row}
use Rattle.forms.specs.declared.rows.Row.TheVariants.{Key, MarketType, Status, Price, Quantity, Turnover, Difference}
use Rattle.decimal.specs.declared.Kind.{Kind}
use Rattle.decimal.specs.Kinds.{price, quantity, turnover, difference}
use Rattle.forms.specs.Rows.{width_of}
use Rattle.layout.specs.Cells.{minus}
use Rattle.layout.specs.CellsLaws.{byte_back}
use Rattle.layout.specs.Plain.{no_room, value_of, held_of, letter_of, seen_value}
use Rattle.layout.specs.PlainLaws.{value_back_lem, has_value}
use Rattle.layout.specs.Read.{is_market_type, is_status}
use Rattle.compose.specs.Write.{RowText, text, malformed, row_text, key_text, letter_text, held_text, of_written}
use Rattle.wire.specs.Bytes.{all_printable}

-- the letters that the rows take are bytes
pub market_small : (markets : Markets) (byte : ℕ) → is_market_type markets byte ≡ true → byte < 256
market_small Normal byte e = omega (arith, eqb-true byte 78 e)
market_small Any byte e =
    ⊎_elim (λ n. omega arith) (⊎_elim (λ o. omega arith) (⊎_elim (λ s. omega arith) (λ a. omega arith)))
    ((or_is (eqb_is byte 78) (or_is (eqb_is byte 79) (or_is (eqb_is byte 83) (eqb_is byte 65)))).0 e)

pub status_small : (byte : ℕ) → is_status byte ≡ true → byte < 256
status_small byte e = go (eqb byte 83) refl e
  where
    go : (first : Bool) → eqb byte 83 ≡ first → (first || eqb byte 32) ≡ true → byte < 256
    go true is e = omega (arith, eqb-true byte 83 is)
    go false is e = omega (arith, eqb-true byte 32 e)

chosen : (taken : Bool) {t : List ℕ} {u : RowText} → cond taken u malformed ≡ text t → (taken ≡ true) × (u ≡ text t)
chosen true e = (refl, e)
chosen false e = (cc, cc)

-- a key's text is a part of it, of bytes that may be written
pub key_is : (width : ℕ) (key : List ℕ) {t : List ℕ} → key_text width key ≡ text t
    → (width ≤ length key) × (all_printable (take width key) ≡ true) × (t ≡ take width key)
key_is width key {t} e =
    let taken = chosen (leb width (length key) && all_printable (take width key)) e in
    let both = (and-eq-true_iff (leb width (length key)) (all_printable (take width key))).0 taken.0 in
    let chars = taken.1 in
    (leb-true width (length key) both.0, both.1, cc)

-- a letter's text is the letter
pub letter_is : (taken : ℕ → Bool) (value : ℕ) {t : List ℕ} → letter_text taken value ≡ text t → (taken value ≡ true) × (t ≡ value ∷ [])
letter_is taken value {t} e =
    let c = chosen (taken value) e in
    let chars = c.1 in
    (c.0, cc)

pub filled_is : (w : Written) {t : List ℕ} → of_written w ≡ text t → w ≡ filled t
filled_is (filled characters) e = cc
filled_is refused e = cc

-- what fills a field denotes the amount, and is as wide
number_width : (kind : Kind) (width : ℕ) (held : Held) {t : List ℕ} → held_text kind width held ≡ text t → length t ≡ width
number_width kind width Nothing {t} e =
    let same : t ≡ blank_text width = cc in
    rw same (length-replicate width space)
number_width kind width (Units n) {t} e = (fills_right kind width false n t (filled_is _ e)).full
number_width kind width (Below n) {t} e = (fills_right kind width true n t (filled_is _ e)).full

pub text_width : (row : Row) (key : List ℕ) (value : ℕ) {t : List ℕ} → row_text row key value ≡ text t → length t ≡ width_of row
unfolding row_text
text_width (Key width) key value e =
    let k = key_is width key e in
    rw k.2 (length-take-le width key k.0)
text_width (MarketType markets) key value e = ap length (letter_is (is_market_type markets) value e).1
text_width Status key value e = ap length (letter_is is_status value e).1
text_width (Price width) key value e = number_width price width (held_of false value) e
text_width (Quantity width) key value e = number_width quantity width (held_of false value) e
text_width (Turnover width) key value e = number_width turnover width (held_of false value) e
text_width (Difference width) key value e = number_width difference width (held_of true value) e

-- a value that has a text is not that of an amount that has none
number_held : (kind : Kind) (width : ℕ) (held : Held) {t : List ℕ} → kind.most < minus - 2 → held_text kind width held ≡ text t
    → value_of kind.signed held ≡ no_room → ⊥
number_held kind width Nothing small e h = omega arith
number_held kind width (Units n) {t} small e h =
    let most : n ≤ kind.most = (fills_right kind width false n t (filled_is _ e)).small in
    omega (arith, has_value kind.signed (Units n) (omega arith))
number_held kind width (Below n) {t} small e h =
    let most : n ≤ kind.most = (fills_right kind width true n t (filled_is _ e)).small in
    omega (arith, has_value kind.signed (Below n) (omega arith))

letter_held : (taken : ℕ → Bool) → ((byte : ℕ) → taken byte ≡ true → byte < 256) → (value : ℕ) {t : List ℕ} → letter_text taken value ≡ text t
    → letter_of value ≡ no_room → ⊥
letter_held taken small value e h =
    let byte : value < 256 = small value (letter_is taken value e).0 in
    omega (arith, byte_back value byte)

pub text_held : (row : Row) (key : List ℕ) (value : ℕ) {t : List ℕ} → row_text row key value ≡ text t → seen_value row value ≡ no_room → ⊥
unfolding row_text
text_held (Key width) key value e h = omega arith
text_held (MarketType markets) key value e h = letter_held (is_market_type markets) (market_small markets) value e h
text_held Status key value e h = letter_held is_status status_small value e h
text_held (Price width) key value e h = number_held price width (held_of false value) (omega arith) e (value_back_lem value ∙ h)
text_held (Quantity width) key value e h = number_held quantity width (held_of false value) (omega arith) e (value_back_lem value ∙ h)
text_held (Turnover width) key value e h = number_held turnover width (held_of false value) (omega arith) e (value_back_lem value ∙ h)
text_held (Difference width) key value e h = number_held difference width (held_of true value) (omega arith) e h
