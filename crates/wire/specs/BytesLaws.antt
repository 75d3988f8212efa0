-- A key's bytes, each by itself.
use Rattle.std.specs.Prelude.{ℕ, zero, suc, ◌≤◌, ◌<◌, ◌≡◌, refl, true, ◌↔◌, List, [], ◌∷◌, length, get_or}
use Rattle.std.proofs.Common.{arith}
use Rattle.laws.specs.Tests.{leb_is, and_is}
use Rattle.wire.specs.Bytes.{lowest_byte, highest_byte, printable, all_printable}

-- each byte in range
abbrev pub InRange : ℕ → Type 0
InRange byte = (lowest_byte ≤ byte) × (byte ≤ highest_byte)

abbrev pub EachInRange : List ℕ → Type 0
EachInRange s = (b : ℕ) → b < length s → InRange (get_or s b 0)

printable_exact : (byte : ℕ) → printable byte ≡ true ↔ InRange byte
printable_exact byte = and_is (leb_is lowest_byte byte) (leb_is byte highest_byte)

pub all_printable_exact : (s : List ℕ) → all_printable s ≡ true ↔ EachInRange s
all_printable_exact [] = ((λ e b h. absurd (omega arith)), (λ h. refl))
all_printable_exact (c ∷ s) = go (and_is (printable_exact c) (all_printable_exact s))
  where
    go : all_printable (c ∷ s) ≡ true ↔ InRange c × EachInRange s → all_printable (c ∷ s) ≡ true ↔ EachInRange (c ∷ s)
    go both = (to, (λ each. both.1 (each 0 (omega arith), (λ b h. each (suc b) (omega arith)))))
      where
        to : all_printable (c ∷ s) ≡ true → EachInRange (c ∷ s)
        to e zero h = (both.0 e).0
        to e (suc b) h = (both.0 e).1 b (omega arith)
