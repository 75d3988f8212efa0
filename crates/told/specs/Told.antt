-- What a host is told of a call, from the numbers of its answer.
use Rattle.std.specs.Prelude.{ℕ, ◌≡◌, List, [], ◌∷◌, ◌++◌, get_or, set, take, drop, replicate}
use Rattle.told.specs.declared.answer.Told.{Told}
use Rattle.state.specs.declared.answers.Recorded.{Recorded}
use Rattle.state.specs.declared.answers.Recorded.TheVariants.{Record, NoRecord, Refused}
use Rattle.state.specs.Refusals.{refusal_numbers}

-- the host's header: the function returns the refusal's number, 0 for accepted; the four numbers of `answer` are the values
-- behind it, and 0 where there are fewer
abbrev pub told_of : List ℕ → Told
told_of numbers = record { number = get_or numbers 0 0; answer = take 4 (drop 1 numbers ++ replicate 4 0) }

-- the host's header: what is returned and what `answer` holds, from the numbers of a call's answer
pub record Tells (numbers : List ℕ) (returned : ℕ) (answer : List ℕ) : Type 0 where
  pub number : returned ≡ (told_of numbers).number
  pub values : answer ≡ (told_of numbers).answer

-- the host's header: 1 for a record, whose number and session stand among the values, and 0 where there is none
abbrev pub record_numbers : Recorded → List ℕ
record_numbers (Record number session) = 0 ∷ 1 ∷ []
record_numbers NoRecord = 0 ∷ 0 ∷ []
record_numbers (Refused refusal) = refusal_numbers refusal

-- a word of our own: the same with a fourth number in the answer
abbrev pub with_fourth : Told → ℕ → Told
with_fourth told fourth = record { number = told.number; answer = set told.answer 3 fourth }
