-- Laws of sound house files: the full check says exactly what the rules say, and what follows from them.
use Prim.Native.Nat.{ℕ, zero, suc, ◌+◌, ◌<◌}
use Rattle.std.specs.Prelude.{◌≡◌, refl, ◌↔◌, List}
use Rattle.std.proofs.Common.{ap, sym, ◌∙◌, add-one, arith}
use Rattle.std.proofs.Math.Bool.{true}
use Rattle.laws.specs.Order.{climbs}
use Rattle.laws.specs.Tests.{both, conj}
use Rattle.wire.specs.Bytes.{all_printable}
use Rattle.wire.specs.BytesLaws.{all_printable_exact}
use Rattle.files.specs.declared.habit.Habit.{Habit}
use Rattle.std.specs.declared.cmp.Ordering.{Ordering}
use Rattle.std.specs.declared.cmp.Ordering.TheVariants.{Less, Equal, Greater}
use Rattle.files.specs.Below.{all_below}
use Rattle.files.specs.BelowLaws.{each_passes, all_pass}
use Rattle.files.specs.File.{segments_of, count_at, key_by}
use Rattle.contracts.specs.HeaderLaws.{header_exact, key_length}
use Rattle.files.specs.Keys.{order_of}
use Rattle.files.specs.KeysLaws.{below_trans}
use Rattle.contracts.specs.Sound.{SoundBy}
use Rattle.contracts.specs.SoundTests.{header_sound_by, is_below, key_ascends, key_sound, body_sound, sound_by}

below_true : (o : Ordering) → is_below o ≡ true → o ≡ Less
below_true Less e = refl
below_true Equal e = cc
below_true Greater e = cc

module _ (habit : Habit) (list : List ℕ) where
  key_next : (i k : ℕ) → key_ascends habit list i (k + 1) ≡ is_below (order_of (key_by habit list i k) (key_by habit list i (k + 1)))
  key_next i k = rw (add-one k)

  -- a list that passes the full check passes the short one
  pub sound_header : sound_by habit list ≡ true → header_sound_by habit list ≡ true
  unfolding sound_by
  sound_header e = (both (header_sound_by habit list) (all_below (segments_of list) (body_sound habit list)) e).0

module _ {habit : Habit} (list : List ℕ) where
  sound_rules : sound_by habit list ≡ true → SoundBy habit list
  unfolding sound_by body_sound key_sound
  sound_rules e =
      let n : ℕ = segments_of list in
      let parts = both (header_sound_by habit list) (all_below (segments_of list) (body_sound habit list)) e in
      let h = (header_exact list).0 parts.0 in
      let key : (i k : ℕ) → i < n → k < count_at list i → key_sound habit list i k ≡ true =
      λ i k l m. each_passes (key_sound habit list i) (count_at list i) (each_passes (body_sound habit list) n parts.1 i l) k m in
      let tests : (i k : ℕ) → i < n → k < count_at list i → (all_printable (key_by habit list i k) ≡ true) × (key_ascends habit list i k ≡ true) =
      λ i k l m. both (all_printable (key_by habit list i k)) (key_ascends habit list i k) (key i k l m) in
      record {
        header = h;
        key_bytes_lem = λ i k b l m o.
            (all_printable_exact (key_by habit list i k)).0 (tests i k l m).0 b (rw (key_length list h i k l m) o);
        keys_ascend = λ i k l m.
            below_true (order_of (key_by habit list i k) (key_by habit list i (k + 1))) (sym (key_next habit list i k) ∙ (tests i (k + 1) l m).1);
      }

  keys_ascending : SoundBy habit list → (i k : ℕ) → i < segments_of list → k < count_at list i → key_ascends habit list i k ≡ true
  keys_ascending s i zero l m = refl
  keys_ascending s i (suc k) l m = rw (← add-one k) (ap is_below (s.keys_ascend i k l (omega arith)))

  sound_holds : SoundBy habit list → sound_by habit list ≡ true
  unfolding sound_by body_sound key_sound
  sound_holds s =
      let n : ℕ = segments_of list in
      let bytes : (i k : ℕ) → i < n → k < count_at list i → all_printable (key_by habit list i k) ≡ true = λ i k l m.
      (all_printable_exact (key_by habit list i k)).1 (λ b o. s.key_bytes_lem i k b l m (rw (← key_length list s.header i k l m) o)) in
      rw (
        (header_exact list).1 s.header,
        all_pass (body_sound habit list) n (λ i l.
            all_pass (key_sound habit list i) (count_at list i) (λ k m.
            conj (all_printable (key_by habit list i k)) (key_ascends habit list i k) (bytes i k l m) (keys_ascending s i k l m))),
      )

  -- 16 at start: the full check passes exactly when its rules hold
  pub sound_exact : sound_by habit list ≡ true ↔ SoundBy habit list
  sound_exact = (sound_rules, sound_holds)

  -- within a segment every key stands below all behind it
  pub keys_climb : SoundBy habit list → (i j k : ℕ) → i < segments_of list → j < k → k < count_at list i
      → order_of (key_by habit list i j) (key_by habit list i k) ≡ Less
  keys_climb s i j k l m o =
      climbs (λ a b. order_of (key_by habit list i a) (key_by habit list i b) ≡ Less)
      (λ a b c p q. below_trans (key_by habit list i a) (key_by habit list i b) (key_by habit list i c) p q)
      (count_at list i) (λ a p. s.keys_ascend i a l p) j k m o
