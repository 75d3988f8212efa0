-- A number through what it holds, through its cell and through its value, whatever its kind.
use Rattle.std.specs.Prelude.{ℕ, ◌-◌, ◌<◌, ◌≡◌, refl, Bool, true, false, List, ◌⊎◌, Option, Some, None}
use Rattle.std.proofs.Common.{ap, ◌∙◌, inl, inr, ⊎_elim, arith}
use Rattle.std.proofs.lemmas.Bool.{false≢true}
use Rattle.laws.specs.Order.{same}
use Rattle.decimal.specs.declared.Kind.{Kind}
use Rattle.decimal.specs.DenotesLaws.{below_signed, below_some}
use Rattle.decimal.specs.declared.Held.{Held}
use Rattle.decimal.specs.declared.Held.TheVariants.{Nothing, Units, Below}
use Rattle.layout.specs.Cells.{minus, held_in, Small, cell_of}
use Rattle.layout.specs.CellsLaws.{MayHold, holds_so, stored_held}
use Rattle.layout.specs.Plain.{no_room, value_of}
use Rattle.layout.specs.PlainLaws.{held_back}
use Rattle.layout.specs.Says.{HeldSays}
use Rattle.amount.specs.declared.price.Price.{Price}
use Rattle.amount.specs.declared.quantity.Quantity.{Quantity}
use Rattle.amount.specs.declared.turnover.Turnover.{Turnover}
use Rattle.quote.specs.Quote.{unsigned_of, price_of, quantity_of, turnover_of}
use Rattle.quote.specs.Shows.{held_price, held_quantity, held_turnover}

-- ---- what a number is

-- a kind's numbers are what its rows may hold, and are given back up to what is plain of them
pub record IsNumber {A : Type 0} (signed : Bool) (of : Held → A) (held : A → Held) (plain : A → A) : Type 0 where
  pub held_of_lem : (h : Held) → MayHold signed h → held (of h) ≡ h
  pub may_hold : (a : A) → MayHold signed (held a)
  pub of_held : (a : A) → of (held a) ≡ plain a

module _ {A : Type 0} {signed : Bool} {of : Held → A} {held : A → Held} {plain : A → A} (number : IsNumber signed of held plain) where
  -- a cell's number holds what the cell does
  pub cell_held : (cell : ℕ) → held (of (held_in signed cell)) ≡ held_in signed cell
  cell_held cell = number.held_of_lem (held_in signed cell) (holds_so signed cell)

  -- a number is read back from its value, if it is no amount that has none
  pub number_back : (a : A) → (value_of signed (held a) ≡ no_room → ⊥) → of (held_in signed (value_of signed (held a))) ≡ plain a
  number_back a small = ap of (held_back signed (held a) (number.may_hold a) small) ∙ number.of_held a

  no_room_lem : (signed : Bool) → value_of signed (held_in signed no_room) ≡ no_room
  no_room_lem true = refl
  no_room_lem false = refl

  -- a number's value is seen as it is
  pub value_again : (a : A) → value_of signed (held_in signed (value_of signed (held a))) ≡ value_of signed (held a)
  value_again a =
      ⊎_elim (λ (e : value_of signed (held a) ≡ no_room). rw e (no_room_lem signed))
      (λ (e : value_of signed (held a) ≡ no_room → ⊥). ap (value_of signed) (held_back signed (held a) (number.may_hold a) e))
      (same (value_of signed (held a)) no_room)

-- ---- each kind

-- a kind without a sign, whose numbers are "none" and its amounts
unsigned_number : {A : Type 0} (nothing : A) (amount : ℕ → A) (held : A → Held) → held nothing ≡ Nothing → ((n : ℕ) → held (amount n) ≡ Units n)
    → ((a : A) → (a ≡ nothing) ⊎ ((n : ℕ) × (a ≡ amount n))) → IsNumber false (unsigned_of nothing amount) held (λ a. a)
unsigned_number {A} nothing amount held none_held amount_held cases = record { held_of_lem = back; may_hold = may; of_held = again }
  where
    back : (h : Held) → MayHold false h → held (unsigned_of nothing amount h) ≡ h
    back Nothing may_it = none_held
    back (Units n) may_it = amount_held n
    back (Below n) may_it = absurd (false≢true may_it.0)

    may : (a : A) → MayHold false (held a)
    may a = ⊎_elim (λ (e : a ≡ nothing). rw (e, none_held) tt) (λ (e : (n : ℕ) × (a ≡ amount n)). rw (e.1, amount_held e.0) tt) (cases a)

    again : (a : A) → unsigned_of nothing amount (held a) ≡ a
    again a = ⊎_elim (λ (e : a ≡ nothing). rw (e, none_held)) (λ (e : (n : ℕ) × (a ≡ amount n)). rw (e.1, amount_held e.0)) (cases a)

price_cases : (p : Option Price) → (p ≡ None) ⊎ ((n : ℕ) × (p ≡ Some (record { 0 = n })))
price_cases None = inl refl
price_cases (Some amount) = inr (amount.0, refl)

pub price_number : IsNumber false price_of held_price (λ p. p)
price_number = unsigned_number None (λ n. Some (record { 0 = n })) held_price refl (λ n. refl) price_cases

quantity_cases : (q : Option Quantity) → (q ≡ None) ⊎ ((n : ℕ) × (q ≡ Some (record { 0 = n })))
quantity_cases None = inl refl
quantity_cases (Some amount) = inr (amount.0, refl)

pub quantity_number : IsNumber false quantity_of held_quantity (λ q. q)
quantity_number = unsigned_number None (λ n. Some (record { 0 = n })) held_quantity refl (λ n. refl) quantity_cases

turnover_cases : (t : Option Turnover) → (t ≡ None) ⊎ ((n : ℕ) × (t ≡ Some (record { 0 = n })))
turnover_cases None = inl refl
turnover_cases (Some amount) = inr (amount.0, refl)

pub turnover_number : IsNumber false turnover_of held_turnover (λ t. t)
turnover_number = unsigned_number None (λ n. Some (record { 0 = n })) held_turnover refl (λ n. refl) turnover_cases

-- ---- what a field says

-- what a field says of a number is in range
pub says_small : (kind : Kind) → kind.most < minus - 2 → (field : List ℕ) (held : Held) → HeldSays kind field held → Small held
says_small kind small field Nothing says = tt
says_small kind small field (Units n) says = omega (arith, says.1)
says_small kind small field (Below n) says = omega (arith, says.1)

-- and is read back from its cell
pub says_held : (kind : Kind) → kind.most < minus - 2 → (field : List ℕ) (held : Held) → HeldSays kind field held → held_in kind.signed (cell_of held) ≡ held
says_held kind small field held says = stored_held kind.signed held (may held says) (says_small kind small field held says)
  where
    may : (held : Held) → HeldSays kind field held → MayHold kind.signed held
    may Nothing says = tt
    may (Units n) says = tt
    may (Below n) says = (below_signed says.0, below_some says.0)
