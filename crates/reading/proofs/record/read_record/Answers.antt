-- What stands at the record's place is read; beside a refusal the quote is blank.
use Rattle.pairs.specs.Lists.{lists}
use Rattle.forms.specs.declared.forms.Item.TheVariants.{Contract}
use Rattle.quote.specs.Quote.{quote_of}
use Rattle.state.specs.Memory.{lends}
use Rattle.reading.specs.Record.{blank}
use Rattle.reading.specs.RecordLaws.{found_refused}
use Rattle.reading.specs.ReadsLaws.{record_refused}
use Rattle.reading.proofs.record.read_record.Goals as goal

pub returns-in-Err : goal.returns-in-Err
returns-in-Err c =
    let a = c.args in
    let lent = lends (lists a.list.now a.spreads.now) a.rows.now a.records.now in
    rw c.blank.ensures
    (record_refused quote_of blank Contract lent a.letter a.key.now a.level _ (found_refused (rw c.in-Err.is at c.find_record.ensures)))
