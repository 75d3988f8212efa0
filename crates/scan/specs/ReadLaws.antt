-- What reading answers is what the text denotes, in both directions: demand 2 of 01 for numbers in text.
use Rattle.std.specs.Prelude.{◌≡◌, ℕ, ◌<◌, ◌≤◌, Bool, true, false, ◌⊎◌, ◌↔◌, List, length, replicate, ◌≢◌, Ok, Err}
use Rattle.std.proofs.Math.Path.{refl}
use Rattle.std.proofs.Common.{sym, ◌∙◌, ap, subst, true≢false, inl, inr, ⊎_elim, arith, le-leb}
use Rattle.std.proofs.lemmas.List.{length-replicate}
use Rattle.std.proofs.lemmas.Bool.{lt-leb}
use Rattle.laws.specs.Choice.{cond_same, clash}
use Rattle.laws.specs.Order.{order}
use Rattle.decimal.specs.Denotes.{space, below_zero, Shape, units, FineEnough, Denotes, AllSpaces}
use Rattle.decimal.specs.DenotesLaws.{below_signed, below_some}
use Rattle.scan.specs.Answers.{Number, Beyond, Says}
use Rattle.scan.specs.Read.{State, Before, Minus, Whole, Pointed, Fraction, Behind, Bad, read_as, walk, sided, answer}
use Rattle.scan.specs.WalkLaws.{shape_reads, spaces_read}
use Rattle.scan.specs.EndsLaws.{Spaces, Ends, Well, ends}
use Rattle.decimal.specs.declared.Kind.{Kind}
use Rattle.decimal.specs.declared.FieldFault.TheVariants.{Malformed, OutOfRange}
use Rattle.decimal.specs.declared.Held.TheVariants.{Nothing, Units, Below}

all_spaces : {t : List ℕ} → Spaces t → AllSpaces t
all_spaces h = h.1 ∙ ap (λ (k : ℕ). replicate k space) (sym (ap length h.1 ∙ length-replicate h.0 space))

sided_good : (below : Bool) (n : ℕ) → Ok (sided below n) ≢ Err Malformed
sided_good true n e = clash (cc)
sided_good false n e = clash (cc)

module _ (kind : Kind) (t : List ℕ) where
  -- ## A text of the shape

  shape_amount : (s : Shape kind t) → FineEnough s → units s ≤ kind.most
      → read_as kind t ≡ Ok (sided (below_zero s.minus (units s)) (units s))
  shape_amount s fine fits = shape_reads kind t s ∙ simp (le-leb (length s.fraction) kind.places fine, le-leb (units s) kind.most fits)

  shape_beyond : (s : Shape kind t) → Beyond kind s → read_as kind t ≡ Err OutOfRange
  shape_beyond s (inl long) = shape_reads kind t s ∙ simp (lt-leb (length s.fraction) kind.places (omega arith))
  shape_beyond s (inr over) = shape_reads kind t s ∙ simp (lt-leb (units s) kind.most over, cond_same)

  measured : (s : Shape kind t) → (FineEnough s × (units s ≤ kind.most)) ⊎ Beyond kind s
  measured s = ⊎_elim
      (λ (fine : FineEnough s). ⊎_elim (λ (fits : units s ≤ kind.most). inl (fine, fits)) (λ (over : kind.most < units s). inr (inr over)) (order (units s) kind.most))
      (λ (long : kind.places < length s.fraction). inr (inl (λ fine. omega arith)))
      (order (length s.fraction) kind.places)

  pub denoted : (below : Bool) (n : ℕ) → Denotes kind t below n → n ≤ kind.most → read_as kind t ≡ Ok (sided below n)
  denoted below n d fits = shape_amount d.shape d.fine (rw (← d.amount) fits) ∙ rw (← d.amount, ← d.side)

  side_said : (below : Bool) (n : ℕ) → Denotes kind t below n → n ≤ kind.most → Says kind t (Ok (sided below n))
  side_said true n d fits = (d, fits)
  side_said false n d fits = (d, fits)

  -- ## Any text

  -- all spaces, of the shape, or malformed
  data Sorted : Type 0 where
    spaces : AllSpaces t → Sorted
    shaped : Shape kind t → Sorted
    neither : read_as kind t ≡ Err Malformed → Sorted

  ended : Ends kind Before t → Sorted
  ended (inl h) = spaces (all_spaces h)
  ended (inr s) = shaped s

  sorted : Sorted
  unfolding read_as
  sorted = go (walk kind Before t) refl
    where
      well : (s : State) → walk kind Before t ≡ s → Well s → Sorted
      well s e h = ended (ends kind Before t (rw e h))

      go : (s : State) → walk kind Before t ≡ s → Sorted
      go Before e = well Before e tt
      go Minus e = neither (ap (answer kind) e)
      go (Whole minus n) e = well (Whole minus n) e tt
      go (Pointed minus n) e = neither (ap (answer kind) e)
      go (Fraction minus n k) e = well (Fraction minus n k) e tt
      go (Behind minus n k) e = well (Behind minus n k) e tt
      go Bad e = neither (ap (answer kind) e)

  never_malformed : Shape kind t → read_as kind t ≢ Err Malformed
  never_malformed s e =
      ⊎_elim
      (λ h. sided_good (below_zero s.minus (units s)) (units s) (sym (shape_amount s h.0 h.1) ∙ e))
      (λ h. clash (cc (shape_beyond s h)))
      (measured s)

  says : Sorted → Says kind t (read_as kind t)
  says (spaces h) = rw (spaces_read kind t h) h
  says (shaped s) = ⊎_elim
      (λ h.
      rw (shape_amount s h.0 h.1)
      (side_said (below_zero s.minus (units s)) (units s) (record { shape = s; fine = h.0; amount = refl; side = refl }) h.1))
      (λ h. rw (shape_beyond s h) (s, h))
      (measured s)
  says (neither e) = rw e (λ h. clash (cc (spaces_read kind t h)), λ s. never_malformed s e)

  said : Sorted → (r : Number) → Says kind t r → read_as kind t ≡ r
  said k (Ok Nothing) h = spaces_read kind t h
  said k (Ok (Units n)) h = denoted false n h.0 h.1
  said k (Ok (Below n)) h = denoted true n h.0 h.1
  said (spaces sp) (Err Malformed) h = absurd (h.0 sp)
  said (shaped s) (Err Malformed) h = absurd (h.1 s)
  said (neither e) (Err Malformed) h = e
  said k (Err OutOfRange) h = shape_beyond h.0 h.1

  -- each answer is given exactly where what it says of the text is so
  pub reads_exactly : (r : Number) → (read_as kind t ≡ r) ↔ Says kind t r
  reads_exactly r = (λ e. subst (Says kind t) e (says sorted), said sorted r)

  -- what is below zero is not zero, and a kind with no sign has none of it
  pub below_not_zero : (n : ℕ) → read_as kind t ≡ Ok (Below n) → 0 < n
  below_not_zero n e = below_some ((reads_exactly (Ok (Below n))).0 e).0

  pub never_below : kind.signed ≡ false → (n : ℕ) → read_as kind t ≢ Ok (Below n)
  never_below plain n e = true≢false (sym (below_signed ((reads_exactly (Ok (Below n))).0 e).0) ∙ plain)
