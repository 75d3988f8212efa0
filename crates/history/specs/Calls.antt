-- Calls as data: every public call with its own arguments, and every answer.
use Rattle.std.specs.Prelude.{ℕ, List, Result}
use Rattle.pairs.specs.Lists.{Lists}
use Rattle.forms.specs.declared.rows.Level.{Level}
use Rattle.forms.specs.declared.forms.Item.{Item}
use Rattle.quote.specs.declared.quote.Quote.{Quote}
use Rattle.spread.specs.declared.spread.SpreadQuote.{SpreadQuote}
use Rattle.state.specs.Answers.{Listed, WrittenOff}
use Rattle.state.specs.declared.refusal.Refusal.{Refusal}
use Rattle.state.specs.declared.answers.Judged.{Judged}
use Rattle.state.specs.declared.answers.Recorded.{Recorded}
use Rattle.state.specs.Memory.{Lent, lends}
use Rattle.writer.specs.declared.writing.Code.{Code}
use Rattle.reading.specs.Shown.{QuoteFor}

-- 01 "What may be asked", M-100: start with lists and start numbers; judge a batch; take one; list a letter's gaps with cells lent;
-- write off of a letter; the record of a letter's key at a level, of a contract or of a pair; write a message: code, level, number,
-- key, quote, bytes lent; write one of a pair; the spread list without pairs for a contract list, with bytes lent
pub data Call : Type 0 where
  start : Lists → List ℕ → Call
  judge take : List ℕ → Call
  list_gaps : ℕ → List ℕ → Call
  write_off : ℕ → Call
  read_record : Item → ℕ → List ℕ → Level → Call
  write_message : Code → Level → ℕ → List ℕ → Quote → List ℕ → Call
  write_spread : Code → Level → ℕ → List ℕ → SpreadQuote → List ℕ → Call
  no_spreads : List ℕ → List ℕ → Call

-- 01 "What may be asked": what each answers, with the cells or bytes that were lent for the answer, afterwards
pub data Answer : Type 0 where
  started : Result (Unit {0}) Refusal → Answer
  judged took : Judged → Answer
  listed : Listed → List ℕ → Answer
  wrote_off : WrittenOff → Answer
  read : (item : Item) → Recorded → QuoteFor item → Answer
  wrote : Result ℕ Refusal → List ℕ → Answer

-- 01 "Sequence and gaps": a start is handed lists of its own
abbrev pub with_lists : Lists → Lent → Lent
with_lists lists lent = lends lists lent.rows lent.records
