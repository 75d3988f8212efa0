-- Two boxes that took the same messages give a host the same.
use Rattle.std.specs.Prelude.{ℕ, ◌≡◌, List, [], ◌∷◌, ◌++◌, length}
use Rattle.std.proofs.Common.{sym, ap₂, subst, ◌∙◌}
use Rattle.std.proofs.Math.Path.{ap}
use Rattle.std.proofs.Math.Option.{Option}
use Rattle.std.proofs.Math.Dec.{ltb}
use Rattle.laws.specs.Rules.{first_broken}
use Rattle.pairs.specs.Lists.{Lists}
use Rattle.sequence.specs.Gaps.{Gaps}
use Rattle.state.specs.declared.refusal.Refusal.{Refusal}
use Rattle.state.specs.declared.refusal.Refusal.TheVariants.{NoGap}
use Rattle.state.specs.declared.answers.Judged.{Judged}
use Rattle.state.specs.declared.answers.Recorded.{Recorded}
use Rattle.state.specs.Answers.{judged_numbers, listed_numbers, written_off_numbers, answered, WrittenOff}
use Rattle.state.specs.AnswersLaws.{judged_told, written_off_told}
use Rattle.state.specs.Memory.{Lent, lends}
use Rattle.state.specs.State.{segment_rules}
use Rattle.batch.specs.Batch.{batch_letter}
use Rattle.batch.specs.Promises.{JudgedBatch}
use Rattle.listing.specs.ListPromises.{WroteOffRun}
use Rattle.listing.specs.ListRules.{write_off_rules}
use Rattle.listing.specs.ListActs.{run_values, lowest_run}
use Rattle.history.proofs.AgreeLaws.{rules_same, gaps_agree, front_same, listings_agree, records_agree}
use Rattle.history.proofs.DemandsLaws.{after_calls}
use Rattle.history.specs.Exactly.{SameTaken}
use Rattle.history.specs.Histories.{Reached}
use Rattle.history.specs.Past.{Event}
use Rattle.reading.specs.Shown.{QuoteFor}
use Rattle.told.specs.Shown.{values_after}
use Rattle.told.specs.Told.{record_numbers}
use Rattle.told.specs.ToldLaws.{told_once}
use Rattle.hosted.proofs.AlikeLaws.{batches_alike}
use Rattle.hosted.specs.HostCalls.{HostReached}
use Rattle.hosted.specs.HostItems.{values_for}
use Rattle.hosted.specs.HostDemands.{HostAgree}
use Rattle.hosted.proofs.HostHistoriesLaws.{host_reached}

module _ {lists : Lists} {rows records rows' records' starts starts' : List ℕ} {past past' : List Event}
    (r : Reached starts (lends lists rows records) past) (r' : Reached starts' (lends lists rows' records') past') (same : SameTaken lists starts past lists starts' past') where
  abbrev lent : Lent
  lent = lends lists rows records

  abbrev lent' : Lent
  lent' = lends lists rows' records'

  verdicts_agree : (batch : List ℕ) (a b : Judged) → JudgedBatch lent batch a → JudgedBatch lent' batch b → a ≡ b
  verdicts_agree batch a b p q =
      judged_told a b
      (p.answers
      ∙ batches_alike lists rows records rows' records' (after_calls r).state_passes (after_calls r').state_passes batch (gaps_agree r r' same (batch_letter batch))
      ∙ sym q.answers)

  off_rules_same : (letter : ℕ) → first_broken (write_off_rules lent letter) ≡ first_broken (write_off_rules lent' letter)
  unfolding write_off_rules
  off_rules_same letter =
      ap (λ (g : Gaps). first_broken (segment_rules lent letter ++ (record { holds = ltb 0 (length g.runs); refusal = NoGap } ∷ []))) (gaps_agree r r' same letter)
      ∙ front_same r r' same (segment_rules lent letter) (segment_rules lent' letter) _ (rules_same r r' same letter)

  write_offs_agree : (letter : ℕ) (a b : WrittenOff) (left left' : Lent) → WroteOffRun lent letter a left → WroteOffRun lent' letter b left' → a ≡ b
  write_offs_agree letter a b left left' p q =
      written_off_told a b
      (p.answers ∙ ap₂ (λ (o : Option Refusal) (g : Gaps). answered o (run_values (lowest_run g))) (off_rules_same letter) (gaps_agree r r' same letter) ∙ sym q.answers)

  hosts_agree : HostAgree lent lent'
  hosts_agree =
      record {
        same_gaps = λ letter cells n k cells' cells'' answer' answer'' p q.
            let one = listings_agree r r' same letter cells p.listed q.listed cells' cells'' p.promised q.promised in
            (told_once listed_numbers one.0 p.tells q.tells, one.1);
        same_records = λ item letter key level values n k values' values'' answer' answer'' p q.
            let one = records_agree r r' same item letter key level p.recorded q.recorded p.quote q.quote p.promised q.promised in (
              told_once record_numbers one.0 p.tells q.tells,
              p.shows ∙ ap₂ (λ (x : Recorded) (y : QuoteFor item). values_after item x (values_for item level y) values) one.0 one.1 ∙ sym q.shows,
            );
        same_verdicts = λ batch n k answer' answer'' p q.
            told_once judged_numbers (verdicts_agree batch p.judged q.judged p.promised q.promised) p.tells q.tells;
        same_write_offs = λ letter n k left left' answer' answer'' p q.
            told_once written_off_numbers (write_offs_agree letter p.written_off_lem q.written_off_lem left left' p.promised q.promised) p.tells q.tells;
      }

-- two boxes that took the same messages give a host the same
pub two_hosts_agree : {starts starts' : List ℕ} {lent lent' : Lent} {past past' : List Event} → HostReached starts lent past → HostReached starts' lent' past'
    → SameTaken lent.lists starts past lent'.lists starts' past' → HostAgree lent lent'
two_hosts_agree {starts} {starts'} {lent} {lent'} {past} {past'} h h' same = go lent'.lists same.same_lists (host_reached h') same
  where
    go : (lists' : Lists) → lent.lists ≡ lists' → Reached starts' (lends lists' lent'.rows lent'.records) past' → SameTaken lent.lists starts past lists' starts' past'
        → HostAgree lent (lends lists' lent'.rows lent'.records)
    go lists' e =
        subst (λ (l : Lists). Reached starts' (lends l lent'.rows lent'.records) past' → SameTaken lent.lists starts past l starts' past' → HostAgree lent (lends l lent'.rows lent'.records))
        e (λ r' one. hosts_agree (host_reached h) r' one)
