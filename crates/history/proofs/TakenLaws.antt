-- Laws of the messages taken: no two have one number, and the same messages in any order have the same numbers, the same highest
-- and the same highest-numbered update.
use Rattle.std.specs.Prelude.{ℕ, ◌-◌, ◌≤◌, ◌≡◌, refl, Bool, true, false, not, cond, ◌⊎◌, ◌↔◌, leb, eqb}
use Rattle.std.proofs.Common.{sym, ap, ◌∙◌, true≢false, inl, inr, ⊎_elim, le_antisymm, arith, eq-eqb, eqb-true}
use mathlib.Core.List.Memᴰ
use mathlib.Core.List.{List, [], ◌∷◌, Memᴰ}
use Rattle.std.proofs.Math.Option.{Option, none, some}
use Rattle.laws.specs.Choice.{either}
use Rattle.laws.specs.Tests.{any, both, all_three, or-true}
use Rattle.message.specs.Message.{Message}
use Rattle.slots.specs.Slots.{Slot}
use Rattle.history.specs.Past.{Event, came, off, wrote_off_in, taken_of}
use Rattle.history.specs.Exactly.{FoundNewest}
use Rattle.history.specs.Machine.{is_numbered, held, is_new, comes_new, highest_of, sequence_number}

-- ---- numbers of messages

pub mem_held : (ms : List Message) (m : Message) → Memᴰ m ms → held ms (sequence_number m) ≡ true
mem_held [] m among = absurd (Memᴰ.not-nil among)
mem_held (k ∷ ms) m among =
    let rest = mem_held ms m in
    ⊎_elim (λ (e : m ≡ k). rw (eq-eqb (sequence_number k) (sequence_number m) (ap sequence_number (sym e))))
    (λ (later : Memᴰ m ms). rw (rest later) (or-true (eqb (sequence_number k) (sequence_number m))))
    (Memᴰ.cases_cons among)

pub held_mem : (ms : List Message) (n : ℕ) → held ms n ≡ true → (m : Message) × (Memᴰ m ms) × (sequence_number m ≡ n)
held_mem [] n e = absurd (true≢false (sym e))
held_mem (k ∷ ms) n e =
    let rest = held_mem ms n in
    ⊎_elim (λ (f : eqb (sequence_number k) n ≡ true). (k, Memᴰ.head refl, eqb-true (sequence_number k) n f))
    (λ (f : held ms n ≡ true). let w = rest f in (w.0, Memᴰ.tail w.1, w.2))
    (any (eqb (sequence_number k) n) (held ms n) e)

-- ---- what is taken

-- a message is taken where its number is new
module _ (i start : ℕ) where
  new_or_before : (j : ℕ) (k : Message) (past : List Event) (m : Message) → Memᴰ m (taken_of i start (came j k ∷ past))
      → ((m ≡ k) × (comes_new start (taken_of i start past) (wrote_off_in i past) k ≡ true)) ⊎ Memᴰ m (taken_of i start past)
  new_or_before j k past m = go (eqb j i) (comes_new start (taken_of i start past) (wrote_off_in i past) k) refl
    where
      go : (own new : Bool) → comes_new start (taken_of i start past) (wrote_off_in i past) k ≡ new
          → Memᴰ m (cond own (cond new (k ∷ taken_of i start past) (taken_of i start past)) (taken_of i start past))
          → ((m ≡ k) × (comes_new start (taken_of i start past) (wrote_off_in i past) k ≡ true)) ⊎ Memᴰ m (taken_of i start past)
      go true true e among = ⊎_elim (λ (f : m ≡ k). inl (f, e)) (λ (before : Memᴰ m (taken_of i start past)). inr before) (Memᴰ.cases_cons among)
      go true false e among = inr among
      go false new e among = inr among

  new_is : (past : List Event) (k : Message) → comes_new start (taken_of i start past) (wrote_off_in i past) k ≡ true
      → held (taken_of i start past) (sequence_number k) ≡ false
  new_is past k e =
      let n : ℕ = sequence_number k in
      let own = both (is_numbered k.what) (is_new start (taken_of i start past) (wrote_off_in i past) n) e in
      let parts = all_three (leb start n) (not (held (taken_of i start past) n)) (not (wrote_off_in i past n)) own.1 in
      not_so (held (taken_of i start past) n) parts.1
    where
      not_so : (t : Bool) → not t ≡ true → t ≡ false
      not_so true e = sym e
      not_so false e = refl

  -- no two have one number
  pub taken_apart : (past : List Event) (m k : Message) → Memᴰ m (taken_of i start past) → Memᴰ k (taken_of i start past)
      → sequence_number m ≡ sequence_number k → m ≡ k
  taken_apart [] m k among also e = absurd (Memᴰ.not-nil among)
  taken_apart (off j r ∷ past) m k among also e = taken_apart past m k among also e
  taken_apart (came j new ∷ past) m k among also e =
      let rest = taken_apart past m k in
      ⊎_elim (λ (w : (m ≡ new) × (comes_new start before (wrote_off_in i past) new ≡ true)).
      ⊎_elim (λ (v : (k ≡ new) × (comes_new start before (wrote_off_in i past) new ≡ true)). w.0 ∙ sym v.0)
      (λ (earlier : Memᴰ k before). absurd (clashes w.1 k earlier (sym e ∙ ap sequence_number w.0)))
      (new_or_before j new past k also))
      (λ (earlier : Memᴰ m before).
      ⊎_elim (λ (v : (k ≡ new) × (comes_new start before (wrote_off_in i past) new ≡ true)). absurd (clashes v.1 m earlier (e ∙ ap sequence_number v.0)))
      (λ (also_earlier : Memᴰ k before). rest earlier also_earlier e)
      (new_or_before j new past k also))
      (new_or_before j new past m among)
    where
      before : List Message
      before = taken_of i start past

      clashes : comes_new start (taken_of i start past) (wrote_off_in i past) new ≡ true → (j : Message) → Memᴰ j (taken_of i start past) → sequence_number j ≡ sequence_number new → ⊥
      clashes new_here j earlier same =
          true≢false (sym (mem_held (taken_of i start past) j earlier) ∙ ap (held (taken_of i start past)) same ∙ new_is past new new_here)

-- ---- highest

pub mem_below : (start : ℕ) (ms : List Message) (m : Message) → Memᴰ m ms → sequence_number m ≤ highest_of start ms
mem_below start [] m among = absurd (Memᴰ.not-nil among)
mem_below start (k ∷ ms) m among =
    let rest = mem_below start ms m in
    ⊎_elim (λ (e : m ≡ k). let same = ap sequence_number e in omega arith) (λ (later : Memᴰ m ms). let under = rest later in omega arith) (Memᴰ.cases_cons among)

pub highest_least : (start : ℕ) (ms : List Message) (h : ℕ) → start - 1 ≤ h → ((m : Message) → Memᴰ m ms → sequence_number m ≤ h) → highest_of start ms ≤ h
highest_least start [] h low each = low
highest_least start (m ∷ ms) h low each =
    let rest = highest_least start ms h low (λ k among. each k (Memᴰ.tail among)) in
    let own = each m (Memᴰ.head refl) in
    omega arith

pub highest_reached : (start : ℕ) (ms : List Message) → start - 1 ≤ highest_of start ms
highest_reached start [] = omega arith
highest_reached start (m ∷ ms) = let rest = highest_reached start ms in omega arith

-- ---- the same messages

moved : (ms ks : List Message) → ((m : Message) → Memᴰ m ms → Memᴰ m ks) → (n : ℕ) → held ms n ≡ true → held ks n ≡ true
moved ms ks each n e = let w = held_mem ms n e in ap (held ks) (sym w.2) ∙ mem_held ks w.0 (each w.0 w.1)

module _ (ms ks : List Message) (same : (m : Message) → Memᴰ m ms ↔ Memᴰ m ks) where
  pub same_held : (n : ℕ) → held ms n ≡ held ks n
  same_held n =
      ⊎_elim (λ (e : held ms n ≡ true). e ∙ sym (moved ms ks (λ m. (same m).0) n e))
      (λ (e : held ms n ≡ false).
      ⊎_elim (λ (f : held ks n ≡ true). moved ks ms (λ m. (same m).1) n f ∙ sym f) (λ (f : held ks n ≡ false). e ∙ sym f) (either (held ks n)))
      (either (held ms n))

  pub same_highest : (start : ℕ) → highest_of start ms ≡ highest_of start ks
  same_highest start =
      le_antisymm (highest_least start ms (highest_of start ks) (highest_reached start ks) (λ m among. mem_below start ks m ((same m).0 among)))
      (highest_least start ks (highest_of start ms) (highest_reached start ms) (λ m among. mem_below start ms m ((same m).1 among)))

  pub same_newest : ((m k : Message) → Memᴰ m ms → Memᴰ k ms → sequence_number m ≡ sequence_number k → m ≡ k) → (slot : Slot) (a b : Option Message)
      → FoundNewest slot ms a → FoundNewest slot ks b → a ≡ b
  same_newest apart slot none none p q = refl
  same_newest apart slot none (some k) p q = absurd (true≢false (sym q.of_slot ∙ p k ((same k).1 q.was_taken)))
  same_newest apart slot (some m) none p q = absurd (true≢false (sym p.of_slot ∙ q m ((same m).0 p.was_taken)))
  same_newest apart slot (some m) (some k) p q =
      let there = (same k).1 q.was_taken in
      ap some (apart m k p.was_taken there (le_antisymm (q.highest m ((same m).0 p.was_taken) p.of_slot) (p.highest k there q.of_slot)))
