-- What putting a text on a page promises, and what reading leaves of a page.
use Rattle.std.specs.Prelude.{ℕ, ◌+◌, ◌≤◌, ◌≡◌, ◌⊎◌, cond, List, leb, length}
use Rattle.std.proofs.lemmas.List.Edits.{sets}
use Rattle.console.specs.declared.page.Page.{Page}

-- a word of our own: a text goes behind what the page has where both fit; else the page is empty again: how much of it is used
abbrev pub used_with : List ℕ → ℕ → List ℕ → ℕ
used_with page used text = cond (leb (used + length text) (length page)) (used + length text) 0

-- a word of our own: a text goes behind what the page has where both fit: the page with it
abbrev pub page_with : List ℕ → ℕ → List ℕ → List ℕ
page_with page used text = cond (leb (used + length text) (length page)) (sets page used text) page

-- a word of our own: what putting a text on a page promises: how much is used, and the page afterwards
pub record Put (page : List ℕ) (used : ℕ) (text : List ℕ) (answer : ℕ) (page' : List ℕ) : Type 0 where
  pub within : answer ≤ length page
  pub uses : answer ≡ used_with page used text
  pub says : page' ≡ page_with page used text

-- a word of our own: the page has the bytes that it had; of these as many are used as were, or none, where they were written out
pub record Stays {P : Type 0} {N : ℕ} (before after : Page P N) : Type 0 where
  pub bytes : after.bytes ≡ before.bytes
  pub used : (after.used ≡ before.used) ⊎ (after.used ≡ 0)
