-- Two outcomes that a promise allows are equal: the number returned, the answer, and every lent cell.
use Rattle.std.specs.Prelude.{ℕ, ◌≡◌, List}
use Rattle.std.proofs.Common.{sym, ap₂, ◌∙◌}
use Rattle.forms.specs.declared.forms.Form.{Form}
use Rattle.forms.specs.declared.forms.Item.{Item}
use Rattle.forms.specs.declared.rows.Level.{Level}
use Rattle.state.specs.declared.answers.Recorded.{Recorded}
use Rattle.state.specs.Answers.{started_numbers, judged_numbers, listed_numbers, written_off_numbers, written_numbers}
use Rattle.state.specs.Memory.{Lent}
use Rattle.state.specs.AnswersLaws.{recorded_told, written_told}
use Rattle.starting.specs.StartPromisesLaws.{one_started}
use Rattle.listing.specs.ListPromisesLaws.{one_listed, one_written_off}
use Rattle.batch.proofs.TookLaws.{one_judged, one_took}
use Rattle.writer.specs.WriterPromisesLaws.{one_written}
use Rattle.told.specs.Told.{record_numbers}
use Rattle.told.specs.ToldLaws.{told_once}
use Rattle.told.specs.Shown.{values_after}
use Rattle.host.specs.Promises.{HostStarted, HostJudged, HostTook, HostListed, HostWroteOff, HostReads, code_of, HostWrites, HostPutNoSpreads}

pub start_once : {lent lent' lent'' : Lent} {starts answer' answer'' : List ℕ} {r s : ℕ}
    → HostStarted lent starts r lent' answer' → HostStarted lent starts s lent'' answer'' → ((r ≡ s) × (answer' ≡ answer'')) × (lent' ≡ lent'')
start_once p q =
    let one = one_started p.started q.started p.promised q.promised in
    (told_once started_numbers one.0 p.tells q.tells, one.1)

pub judge_once : {lent : Lent} {batch answer' answer'' : List ℕ} {r s : ℕ} → HostJudged lent batch r answer'
    → HostJudged lent batch s answer'' → (r ≡ s) × (answer' ≡ answer'')
judge_once {lent} {batch} p q =
    told_once judged_numbers (one_judged lent batch p.judged q.judged p.promised q.promised) p.tells q.tells

pub take_once : {lent lent' lent'' : Lent} {batch answer' answer'' : List ℕ} {r s : ℕ} → HostTook lent batch r lent' answer'
    → HostTook lent batch s lent'' answer'' → ((r ≡ s) × (answer' ≡ answer'')) × (lent' ≡ lent'')
take_once {lent} {lent'} {lent''} {batch} p q =
    let one = one_took lent batch p.judged q.judged lent' lent'' p.promised q.promised in
    (told_once judged_numbers one.0 p.tells q.tells, one.1)

pub list_once : {lent : Lent} {cells cells' cells'' answer' answer'' : List ℕ} {letter r s : ℕ}
    → HostListed lent letter cells r cells' answer' → HostListed lent letter cells s cells'' answer''
    → ((r ≡ s) × (answer' ≡ answer'')) × (cells' ≡ cells'')
list_once p q =
    let one = one_listed p.listed q.listed p.promised q.promised in
    (told_once listed_numbers one.0 p.tells q.tells, one.1)

pub write_off_once : {lent lent' lent'' : Lent} {answer' answer'' : List ℕ} {letter r s : ℕ} → HostWroteOff lent letter r lent' answer'
    → HostWroteOff lent letter s lent'' answer'' → ((r ≡ s) × (answer' ≡ answer'')) × (lent' ≡ lent'')
write_off_once p q =
    let one = one_written_off p.written_off_lem q.written_off_lem p.promised q.promised in
    (told_once written_off_numbers one.0 p.tells q.tells, one.1)

pub read_once : {A : Type 0} {show : Form → List ℕ → A} {blank : A} {values_of : Level → A → List ℕ} {item : Item} {lent : Lent}
    {key values values' values'' answer' answer'' : List ℕ} {letter r s : ℕ} {level : Level}
    → HostReads show blank values_of item lent letter key level values r values' answer' → HostReads show blank values_of item lent letter key level values s values'' answer''
    → ((r ≡ s) × (answer' ≡ answer'')) × (values' ≡ values'')
read_once {A} {values_of = values_of} {item = item} {values = values} {level = level} p q =
    let same : p.recorded ≡ q.recorded = recorded_told p.recorded q.recorded (p.promised.answers ∙ sym q.promised.answers) in
    let quotes : p.quote ≡ q.quote = p.promised.quotes ∙ sym q.promised.quotes in (
      told_once record_numbers same p.tells q.tells,
      p.shows ∙ ap₂ (λ (r : Recorded) (x : A). values_after item r (values_of level x) values) same quotes ∙ sym q.shows,
    )

pub write_once : {item : Item} {values : Form → List ℕ} {code key out out' out'' answer' answer'' : List ℕ} {level : Level} {number r s : ℕ}
    → HostWrites item code level number key values out r out' answer' → HostWrites item code level number key values out s out'' answer''
    → ((r ≡ s) × (answer' ≡ answer'')) × (out' ≡ out'')
write_once {item} {values} {code} {key} {out} {level = level} {number = number} p q =
    let one = one_written item (code_of code) level number key values out p.written q.written p.promised q.promised in
    (told_once written_numbers one.0 p.tells q.tells, one.1)

pub no_spreads_once : {list out out' out'' answer' answer'' : List ℕ} {r s : ℕ} → HostPutNoSpreads list out r out' answer'
    → HostPutNoSpreads list out s out'' answer'' → ((r ≡ s) × (answer' ≡ answer'')) × (out' ≡ out'')
no_spreads_once p q =
    let same : p.written ≡ q.written = written_told p.written q.written (p.promised.answers ∙ sym q.promised.answers) in
    (told_once written_numbers same p.tells q.tells, p.promised.left ∙ sym q.promised.left)
