-- M-100: only a kind with a sign has texts of numbers below zero, and none of them is zero.
use Rattle.std.specs.Prelude.{ℕ, zero, suc, ◌<◌, ◌≡◌, refl, Bool, true, false, not, ◌&&◌, List, eqb}
use Rattle.std.proofs.Common.{sym, true≢false, arith}
use Rattle.std.proofs.lemmas.Bool.{false≢true}
use Rattle.decimal.specs.Denotes.{Denotes}
use Rattle.decimal.specs.declared.Kind.{Kind}

both : (s t : Bool) → true ≡ s && t → (s ≡ true) × (t ≡ true)
both true t e = (refl, sym e)
both false t e = absurd (true≢false e)

counts : (n : ℕ) → not (eqb n 0) ≡ true → 0 < n
counts zero e = absurd (false≢true e)
counts (suc n) e = omega arith

module _ {kind : Kind} {text : List ℕ} {n : ℕ} (d : Denotes kind text true n) where
  pub below_signed : kind.signed ≡ true
  below_signed = d.shape.may_minus (both d.shape.minus (not (eqb n 0)) d.side).0

  pub below_some : 0 < n
  below_some = counts n (both d.shape.minus (not (eqb n 0)) d.side).1
