-- The first segment that has the letter, or none.
use Rattle.std.specs.Prelude.{ℕ, Bool, ◌≡◌, Option as Found, Some, None, MatchOption, eqb}
use Rattle.std.proofs.Math.Option.{Option, none, some}
use Rattle.std.proofs.Common.{ap, sym, ◌∙◌, rules, tests}
use Rattle.laws.specs.Refused.{code_no}
use Rattle.files.proofs.Ranges.{first_told}
use Rattle.files.specs.Below.{first_below}
use Rattle.files.specs.File.{letter_at}
use Rattle.lookup.specs.Answers.{found_numbers, looked_up}
use Rattle.lookup.specs.Lookup.{segment_of}
use Rattle.lookup.proofs.lookup.segment_of.Goals as goal

numbers : (r : Found ℕ) (o : Option ℕ) → MatchOption r (o ≡ none) (λ i. o ≡ some i) → found_numbers code_no r ≡ looked_up code_no o
numbers None o e = ap (looked_up code_no) (sym e)
numbers (Some i) o e = ap (looked_up code_no) (sym e)

pub returns : goal.returns
unfolding segment_of
returns c =
    let has : ℕ → Bool = λ i. eqb (letter_at c.args.list.now i) c.args.letter in
    numbers c.find.result (first_below c.segments.result has) (first_told _ c.find.result has c.segments.result c.find.ensures.ran (λ x b q k. search (rules, tests)))
    ∙ ap (λ n. looked_up code_no (first_below n has)) c.segments.ensures
