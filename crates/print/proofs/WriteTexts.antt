-- What is written denotes the amount, no text that denotes it is shorter, and the writer refuses exactly where none fits. These
-- laws rest on the layout of a text, so that an edit that lays it out otherwise leaves specs/ readable.
use Rattle.std.specs.Prelude.{ℕ, ◌+◌, ◌-◌, ◌*◌, ◌/◌, ◌%◌, ◌^◌, ◌<◌, ◌≤◌, ◌≡◌, refl, Bool, true, false, not, ◌&&◌, List, [], ◌∷◌, ◌++◌, ◌↔◌, ◌⊎◌, eqb, length, replicate, Err}
use Rattle.std.proofs.Common.{zero-le, sym, ap, ◌∙◌, true≢false, append-nil, inl, inr, le_refl, add-le-add, div-add-mod', arith, length-append}
use Rattle.std.proofs.Math.Bool.{and_self}
use Rattle.std.proofs.Math.Arith.{digits_div}
use Rattle.std.proofs.lemmas.List.{length-replicate, length-map}
use Rattle.laws.specs.Choice.{either}
use Rattle.laws.specs.Order.{order}
use Rattle.decimal.specs.Denotes.{space, digit_char, value, Digits, pointed, sign, below_zero, Denotes}
use Rattle.decimal.specs.DenotesLaws.{below_signed}
use Rattle.print.specs.Write.{last_digits, size, digits, trimmed, text_of, signed_text, Written, filled, refused, has_side, written_as, refusal, Put, put_number, Wrote}
use Rattle.decimal.specs.declared.Kind.{Kind}
use Rattle.decimal.specs.declared.FieldFault.TheVariants.{OutOfRange}
use Rattle.print.specs.ValueLaws.{digits_append, digits_zeros, value_zeros, value_lt}
use Rattle.print.specs.WriteDigitLaws.{length_last, digits_last, value_last, value_digits, last_value, size_pos, size_least, trimmed_zeros, trimmed_shorter, digits_trimmed, value_trimmed}
use Rattle.print.specs.WriteLaws.{text_length, sideless, over, within, narrow, fitting, spaced_length, Right, Refused, put_number_apart}

-- ---- what is written denotes the amount

-- the fraction as written: no finer than the kind, and what the whole leaves
fraction_fine : (places n : ℕ) → length (trimmed (last_digits places n)) ≤ places
fraction_fine places n = omega (arith, trimmed_shorter (last_digits places n), length_last places n)

fraction_counts : (places n : ℕ) →
    value (trimmed (last_digits places n)) * 10 ^ (places - length (trimmed (last_digits places n))) ≡ n % 10 ^ places
fraction_counts places n = rw length_last at (value_trimmed (last_digits places n)) ∙ value_last places n

-- what is below zero stays so behind a minus of its own
below_again : (below : Bool) (n : ℕ) → below_zero below n ≡ below_zero (below_zero below n) n
below_again true n = sym (and_self (not (eqb n 0)))
below_again false n = refl

-- a minus stands only where the kind has numbers below zero
may_side : (kind : Kind) (minus : Bool) → has_side kind minus ≡ true → minus ≡ true → kind.signed ≡ true
may_side kind true e m = e
may_side kind false e m = absurd (true≢false (sym m))

-- whatever number of spaces stands in front of it
pub denotes : (kind : Kind) (below : Bool) (before n : ℕ) → has_side kind (below_zero below n) ≡ true
    → Denotes kind (replicate before space ++ signed_text (below_zero below n) kind.places n) (below_zero below n) n
unfolding text_of
denotes kind below before n side =
    let places : ℕ = kind.places in
    record {
      shape =
          record {
            before = before;
            minus = below_zero below n;
            whole = digits (n / 10 ^ places);
            fraction = trimmed (last_digits places n);
            behind = 0;
            some_digit = rw length_last (size_pos (n / 10 ^ places));
            whole_digits = digits_last (size (n / 10 ^ places)) (n / 10 ^ places);
            fraction_digits = digits_trimmed (last_digits places n) (digits_last places n);
            may_minus = may_side kind (below_zero below n) side;
            may_point = λ h. omega (arith, fraction_fine places n);
            laid_out = rw append-nil;
          };
      fine = fraction_fine places n;
      amount = rw (value_digits (n / 10 ^ places), fraction_counts places n) (sym (div-add-mod' n (10 ^ places)));
      side = below_again below n;
    }

-- ---- no text that denotes the amount is shorter

pointed_longer : (ds es : List ℕ) → length ds ≤ length es → length (pointed ds) ≤ length (pointed es)
pointed_longer [] es h = zero-le
pointed_longer (d ∷ ds) [] h = absurd (omega arith)
pointed_longer (d ∷ ds) (e ∷ es) h = omega (arith, length-map ds digit_char, length-map es digit_char)

sign_shorter : (minus counts : Bool) → length (sign (minus && counts)) ≤ length (sign minus)
sign_shorter true true = le_refl 1
sign_shorter true false = zero-le
sign_shorter false counts = le_refl 0

-- Of a text that denotes n, with the places that its fraction leaves out filled up by zeros: these are n's digits behind the
-- point, and the whole part is what stands before it.
module _ {kind : Kind} {below : Bool} {n : ℕ} {text : List ℕ} (d : Denotes kind text below n) where
  abbrev places : ℕ
  places = kind.places

  left_out : ℕ
  left_out = places - length d.shape.fraction

  filled_up : List ℕ
  filled_up = d.shape.fraction ++ replicate left_out 0

  up_length : length filled_up ≡ places
  unfolding filled_up left_out
  up_length = rw (length-append, length-replicate) (omega (arith, d.fine))

  up_digits : Digits filled_up
  unfolding filled_up
  up_digits = digits_append d.shape.fraction (replicate left_out 0) d.shape.fraction_digits (digits_zeros left_out)

  up_amount : n ≡ value d.shape.whole * 10 ^ places + value filled_up
  unfolding filled_up left_out
  up_amount = rw value_zeros d.amount

  up_below : value filled_up < 10 ^ places
  up_below = rw up_length at (value_lt filled_up up_digits)

  whole_is : n / 10 ^ places ≡ value d.shape.whole
  whole_is = ap (λ (m : ℕ). m / 10 ^ places) up_amount ∙ digits_div (value d.shape.whole) up_below

  fraction_is : last_digits places n ≡ filled_up
  fraction_is = ap (last_digits places) up_amount ∙ rw up_length at (last_value filled_up (value d.shape.whole) up_digits)

  whole_shorter : size (n / 10 ^ places) ≤ length d.shape.whole
  whole_shorter =
      rw whole_is
      (size_least (length d.shape.whole) (value d.shape.whole) d.shape.some_digit (value_lt d.shape.whole d.shape.whole_digits))

  fraction_shorter : length (pointed (trimmed (last_digits places n))) ≤ length (pointed d.shape.fraction)
  unfolding filled_up
  fraction_shorter =
      pointed_longer (trimmed (last_digits places n)) d.shape.fraction
      (rw (fraction_is, trimmed_zeros) (trimmed_shorter d.shape.fraction))

  below_shorter : length (sign below) ≤ length (sign d.shape.minus)
  below_shorter = rw d.side (sign_shorter d.shape.minus (not (eqb n 0)))

  -- without its spaces
  pub shortest : length (signed_text below places n)
      ≤ length (sign d.shape.minus) + (length d.shape.whole + length (pointed d.shape.fraction))
  shortest = rw (length-append, text_length) (add-le-add below_shorter (add-le-add whole_shorter fraction_shorter))

  pub no_shorter : length (signed_text below places n) ≤ length text
  no_shorter = rw d.shape.laid_out (simp (length-append, length-map) (omega (arith, simp length-append at shortest)))

-- only a kind that has the side has texts on it
denoted_side : (kind : Kind) (below : Bool) (n : ℕ) (text : List ℕ) → Denotes kind text below n → has_side kind below ≡ true
denoted_side kind true n text d = below_signed d
denoted_side kind false n text d = refl

-- ---- the field is filled, or it is refused

data Outcome (kind : Kind) (width : ℕ) (below : Bool) (n : ℕ) : Written → Type 0 where
  fills : {text : List ℕ} → Right kind width below n text → Outcome kind width below n (filled text)
  stops : Refused kind width below n → Outcome kind width below n refused

apart : {text : List ℕ} → refused ≡ filled text → ⊥
apart e = let z : ◌≡◌ {A = ℕ} 0 1 = cc in omega arith

module _ (kind : Kind) (width : ℕ) (below : Bool) (n : ℕ) where
  outcome : Outcome kind width below n (written_as kind width below n)
  outcome = go (either (has_side kind minus)) (order n kind.most) (order (length text) width)
    where
      minus : Bool
      minus = below_zero below n

      text : List ℕ
      text = signed_text minus kind.places n

      go : (has_side kind minus ≡ true) ⊎ (has_side kind minus ≡ false) → (n ≤ kind.most) ⊎ (kind.most < n)
          → (length text ≤ width) ⊎ (width < length text) → Outcome kind width below n (written_as kind width below n)
      go (inl side) (inl h) (inl room) =
          rw (within kind width below n side h, fitting width text room)
          (fills
          (record {
            full = spaced_length width text room;
            means = denotes kind below (width - length text) n side;
            side = side;
            small = h;
          }))
      go (inl side) (inl h) (inr none) =
          rw (within kind width below n side h, narrow width text none) (stops (inr (λ other e d. omega (arith, no_shorter d))))
      go (inl side) (inr large) room = rw (over kind width below n large) (stops (inl large))
      go (inr none) h room =
          rw (sideless kind width below n none)
          (stops (inr (λ other e d. true≢false (sym (denoted_side kind minus n other d) ∙ none))))

  -- what fills the field denotes the number
  pub fills_right : (text : List ℕ) → written_as kind width below n ≡ filled text → Right kind width below n text
  fills_right text = go (written_as kind width below n) outcome
    where
      go : (w : Written) → Outcome kind width below n w → w ≡ filled text → Right kind width below n text
      go _ (fills {text = t} h) e = let same : t ≡ text = cc in rw same at h
      go _ (stops why) e = absurd (apart e)

  -- 12 exactly where the amount is over the largest or no text of the field's width denotes the number
  pub refuses : (written_as kind width below n ≡ refused) ↔ Refused kind width below n
  refuses = (why (written_as kind width below n) outcome, so (written_as kind width below n) outcome)
    where
      why : (w : Written) → Outcome kind width below n w → w ≡ refused → Refused kind width below n
      why _ (fills h) e = absurd (apart (sym e))
      why _ (stops h) e = h

      so : (w : Written) → Outcome kind width below n w → Refused kind width below n → w ≡ refused
      so _ (fills h) (inl large) = absurd (omega arith)
      so _ (fills {text = t} h) (inr none) = absurd (none t h.full h.means)
      so _ (stops h) reason = refl

-- ---- the promise

-- by its answer: refused exactly where the amount is over the largest or no text of the field's width denotes the number
module _
    (kind : Kind)
    (below : Bool)
    (n : ℕ)
    (before after : List ℕ)
    (answer : Put)
    (p : Wrote (written_as kind (length before) below n) before answer after) where
  pub refused_exactly : (answer ≡ Err OutOfRange) ↔ Refused kind (length before) below n
  refused_exactly = (
    why (written_as kind (length before) below n) (outcome kind (length before) below n) p,
    λ h. put_number_apart answer (Err OutOfRange) (p.answers ∙ ap refusal ((refuses kind (length before) below n).1 h)),
  )
    where
      why : (w : Written) → Outcome kind (length before) below n w → Wrote w before answer after → answer ≡ Err OutOfRange
          → Refused kind (length before) below n
      why _ (fills h) q e = absurd (omega (arith, ap put_number e, q.answers))
      why _ (stops h) q e = h
