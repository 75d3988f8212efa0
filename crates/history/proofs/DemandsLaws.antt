-- The theorems: what `Demands` states holds after every history, of any two, and of every call.
use Rattle.std.specs.Prelude.{ℕ, ◌≡◌, Bool, ◌||◌, List, ltb}
use Rattle.std.proofs.Common.{sym, ap₂, subst, ◌∙◌}
use Rattle.std.proofs.Math.Logic.Iff
use Rattle.pairs.specs.Lists.{Lists}
use Rattle.state.specs.declared.refusal.Refusal.TheVariants.{Gaps}
use Rattle.state.specs.declared.answers.Judged.{Judged}
use Rattle.state.specs.Memory.{Lent, lends}
use Rattle.starting.specs.StartPromisesLaws.{start_refusal_lem, no_spreads_refusal_lem, start_leaves}
use Rattle.listing.specs.ListPromisesLaws.{list_refusal_lem, off_refusal_lem, off_leaves}
use Rattle.turns.specs.Compared.{compared_in}
use Rattle.batch.specs.Batch.{batch_letter, batch_data}
use Rattle.batch.proofs.OrderLaws.{refused_exact}
use Rattle.batch.specs.Promises.{JudgedBatch, TookBatch}
use Rattle.starting.specs.Start.{start_of}
use Rattle.batch.proofs.TookLaws.{judged_refused, compared_follows, compared_few, refused_keeps, state_good}
use Rattle.writer.specs.WriterPromisesLaws.{write_refusal_lem}
use Rattle.history.specs.Past.{Event, wrote_off_in, taken_of}
use Rattle.history.proofs.SegmentLaws.{takes_new}
use Rattle.history.specs.Histories.{Reached}
use Rattle.history.proofs.HoldsLaws.{reached_holds, off_listed}
use Rattle.history.specs.Exactly.{SameTaken}
use Rattle.history.proofs.ListingLaws.{gaps_exactly, runs_answered_lem, runs_refused}
use Rattle.history.proofs.OffLaws.{off_lowest, off_none, off_after}
use Rattle.history.proofs.RecordLaws.{reads_slot}
use Rattle.history.proofs.FullLaws.{acts_over}
use Rattle.history.proofs.JudgesLaws.{counts, accepted_exactly, judged_exactly}
use Rattle.history.proofs.AgreeLaws.{listings_agree, records_agree}
use Rattle.history.specs.Demands.{AfterCalls, CompareAlike, Agree, RefusalsKeep, AcceptedLeave}

module _ {starts : List ℕ} {lent : Lent} {past : List Event} (r : Reached starts lent past) where
  -- demand 3, after any sequence of calls from a fresh start
  pub after_calls : AfterCalls starts lent past
  after_calls =
      record {
        names_missing = gaps_exactly r;
        list_answered = runs_answered_lem r;
        list_refused = runs_refused r;
        off_lowest = off_lowest r;
        off_none = off_none r;
        off_after = off_after r;
        reads_newest = reads_slot r;
        takes_missing = λ i there n.
            let start : ℕ = start_of starts i in
            let f = (reached_holds r).gaps_fit i there in
            sym (takes_new start (taken_of i start past) (wrote_off_in i past) _ f n)
            ∙ ap₂ (λ (h : ℕ) (m : Bool). ltb h n || m) f.highest_is (f.missing_is n);
        counts_came = counts r;
        accepted_exactly = accepted_exactly r;
        judged_exactly = judged_exactly r;
        refused_for_gaps = λ batch answer p i.
            Iff.trans (judged_refused lent batch answer p (Gaps i)) (Iff.trans (Iff.symm (refused_exact lent batch (Gaps i))) (acts_over r batch i));
        keys_compared = λ batch answer p. record { follows = compared_follows lent batch answer p; few = compared_few lent batch answer p };
        state_passes = (reached_holds r).state;
        lists_sound = (reached_holds r).lists_sound;
      }

-- what is said of judging a batch is said of taking it
pub took_judged : {lent lent' : Lent} {batch : List ℕ} {answer : Judged} → TookBatch lent batch answer lent' → JudgedBatch lent batch answer
took_judged t = record { answers = t.answers }

-- two boxes with the same lists compare alike
pub two_compare : {lent lent' : Lent} → lent.lists ≡ lent'.lists → CompareAlike lent lent'
two_compare {lent} {lent'} same batch a b p q e =
    compared_follows lent batch a p
    ∙ ap₂ (λ (n : ℕ) (l : Lists). compared_in n l (batch_letter batch) (batch_data batch)) e same
    ∙ sym (compared_follows lent' batch b q)

-- two boxes that took the same messages agree
pub two_agree : {lent lent' : Lent} {starts starts' : List ℕ} {past past' : List Event}
    → Reached starts lent past → Reached starts' lent' past' → SameTaken lent.lists starts past lent'.lists starts' past' → Agree lent lent'
two_agree {lent} {lent'} {starts} {starts'} {past} {past'} r r' same = go lent'.lists same.same_lists r' same
  where
    go : (lists' : Lists) → lent.lists ≡ lists' → Reached starts' (lends lists' lent'.rows lent'.records) past' → SameTaken lent.lists starts past lists' starts' past'
        → Agree lent (lends lists' lent'.rows lent'.records)
    go lists' e =
        subst (λ (l : Lists). Reached starts' (lends l lent'.rows lent'.records) past' → SameTaken lent.lists starts past l starts' past' → Agree lent (lends l lent'.rows lent'.records))
        e (λ r' same. record { same_gaps = listings_agree r r' same; same_records = records_agree r r' same })

-- a refused call changes nothing
pub refusals_keep : (lent : Lent) → RefusalsKeep lent
refusals_keep lent =
    record {
      start_keeps = λ starts refusal lent' p. (start_refusal_lem refusal p).1;
      take_keeps = λ batch refusal compared lent' t. refused_keeps lent batch refusal lent' t;
      list_keeps = λ letter cells refusal cells' p. (list_refusal_lem refusal p).1;
      write_off_keeps = λ letter refusal lent' p. (off_refusal_lem refusal p).1;
      write_keeps = λ item code level number key cells out refusal out' p. (write_refusal_lem item code level number key cells out refusal p).1;
      no_spreads_keeps = λ list out refusal out' p. (no_spreads_refusal_lem refusal p).1;
    }

-- an accepted call leaves a state that passes
pub accepted_leave : (lent : Lent) → AcceptedLeave lent
accepted_leave lent =
    record {
      start_leaves = λ starts lent' p. start_leaves p;
      take_leaves = state_good lent;
      write_off_leaves = λ letter first last lent' p. let l = off_listed first last p in off_leaves first last p l.0 l.1;
    }
