-- A text that is copied behind what the page has.
use Rattle.std.proofs.Common.{ℕ, ◌+◌, drop, take, ◌-◌, ◌≤◌, ◌≡◌, List, length, refl, sym, ◌∙◌, arith, append_assoc, le-leb, true, leb}
use Rattle.std.proofs.lemmas.List.Edits.{paste_all, sets, sets-eq}
use Rattle.std.proofs.lemmas.Slice.{put_mid-paste}
use borrow.Rule.Slice.PartMut.{put_mid}
use Rattle.console.specs.Page.{Put}

module _ (page text copy : List ℕ) (used : ℕ) (fits : used + length text ≤ length page) (same : copy ≡ text) where
  copied : put_mid used (used + length text - used) page copy ≡ sets page used text
  copied =
      put_mid-paste used (used + length text - used) page copy text (length text) same (omega arith) refl
      ∙ paste_all page used text (length text) refl
      ∙ sym (append_assoc (take used page) text (drop (used + length text) page))
      ∙ sym (sets-eq text page used fits)

  pub put_behind : Put page used text (used + length text) (put_mid used (used + length text - used) page copy)
  put_behind =
      let room : leb (used + length text) (length page) ≡ true = le-leb _ _ fits in
      record { within = fits; uses = rw room refl; says = rw room copied }
