-- The rules before the messages hold exactly when state and batch are good.
use Rattle.std.specs.Prelude.{ℕ, ◌+◌, ◌≤◌, ◌<◌, ◌≡◌, true, ◌↔◌, List, leb, eqb, length}
use Rattle.std.proofs.Common.{arith, leb-true, le-leb, ltb-true, lt-ltb, eqb-true, eq-eqb}
use Rattle.laws.specs.Rules.{Hold}
use Rattle.laws.specs.Tests.{both, conj}
use Rattle.files.specs.BelowLaws.{all_pass}
use Rattle.files.specs.File.{segments_of}
use Rattle.sequence.specs.RowLaid.{sound_gap_row}
use Rattle.batch.specs.Batch.{flag_of, size_of, count_of, batch_rules}
use Rattle.batch.specs.Good.{GoodFront}
use Rattle.state.specs.GoodState.{GoodState}
use Rattle.state.specs.Memory.{Lent, gap_row_of}
use Rattle.batch.specs.Scratch.{RowsReady}

module _ (lent : Lent) where
  pub rows_ready : GoodState lent → RowsReady lent.lists lent.rows
  rows_ready g =
      record { enough = g.rows_lent; sound = all_pass (λ i. sound_gap_row (gap_row_of lent.rows i)) (segments_of lent.lists.contracts) g.rows_sound }

pub front_exact : (batch : List ℕ) → Hold (batch_rules batch) ↔ GoodFront batch
front_exact batch = (
  (λ h.
      let flag : 0 < flag_of batch = ltb-true 0 (flag_of batch) h.1.0 in
      let plain : flag_of batch ≤ 1 = leb-true (flag_of batch) 1 h.1.1.0 in
      let sizes = both (leb (size_of batch) 32767) (eqb (length batch) (size_of batch + 5)) h.1.1.1.0 in
      record {
        begun = leb-true 5 (length batch) h.0;
        small = leb-true (size_of batch) 32767 sizes.0;
        whole = eqb-true (length batch) (size_of batch + 5) sizes.1;
        plain = omega arith;
        some_messages = ltb-true 0 (count_of batch) h.1.1.1.1.0;
      }),
  (λ g.
      let p = g.plain in
      let s : leb (size_of batch) 32767 ≡ true = le-leb (size_of batch) 32767 g.small in
      let w : eqb (length batch) (size_of batch + 5) ≡ true = eq-eqb (length batch) (size_of batch + 5) g.whole in (
        le-leb 5 (length batch) g.begun,
        (
          lt-ltb 0 (flag_of batch) (omega arith),
          (
            le-leb (flag_of batch) 1 (omega arith),
            (conj (leb (size_of batch) 32767) (eqb (length batch) (size_of batch + 5)) s w, (lt-ltb 0 (count_of batch) g.some_messages, tt)),
          ),
        ),
      )),
)
