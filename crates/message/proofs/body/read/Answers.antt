-- The head, and then the contents.
-- what is known once the frame is judged
use Rattle.std.proofs.Common.{ℕ, ◌≡◌, refl, sym, ◌∙◌, List}
use Rattle.lookup.specs.Answers.{place_of}
use Rattle.pairs.specs.Lists.{Lists, lists}
use Rattle.lookup.specs.Lookup.{segment_of}
use Rattle.head.specs.Faults.{Head}
use Rattle.head.specs.Head.{frame_rules}
use Rattle.head.proofs.FaultsTold.{head_told}
use Rattle.head.specs.Rules.{first_fault}
use Rattle.head.specs.HeadLaws.{good_frame, bad_frame}
use Rattle.message.specs.Reads.{message_of, cells_read}
use Rattle.message.specs.MessageLaws.{places_by_segment, keys_by_segment, bad_head}
use Rattle.message.proofs.body.read.Goals.{After-judge_frame}
use Rattle.message.proofs.body.read.Goals as goal

module _ (c : After-judge_frame) where
  abbrev both : Lists
  both = lists c.args.list.now c.args.spreads.now

  abbrev letter : ℕ
  letter = c.args.letter

  abbrev bytes : List ℕ
  bytes = c.args.bytes.now

  frame_is : {h : Head} → c.judge_frame.result ≡ h → first_fault (frame_rules letter (segment_of both.contracts letter) bytes) ≡ h
  frame_is e = rw c.requires at (sym (head_told c.judge_frame.result (first_fault (frame_rules letter (place_of c.args.segment) bytes)) c.judge_frame.ensures) ∙ e)

pub returns-in-Ok : goal.returns-in-Ok
unfolding cells_read message_of
returns-in-Ok c =
    let d = (goal.at.returns-in-Ok c).After-judge_frame in
    let h = (good_frame (letter d) (segment_of (both d).contracts (letter d)) (bytes d) (frame_is d c.in-Ok.is)).1 in
    rw (h, ← places_by_segment (both d) (letter d) (bytes d) d.requires, ← keys_by_segment (both d) (letter d) (bytes d) d.requires) c.formed.ensures

pub returns-in-Err : goal.returns-in-Err
unfolding cells_read
returns-in-Err c =
    let d = (goal.at.returns-in-Err c).After-judge_frame in
    let h = bad_frame (letter d) (segment_of (both d).contracts (letter d)) (bytes d) _ (frame_is d c.in-Err.is) in
    rw (bad_head (both d) (letter d) (bytes d) _ h, h) (record { told = c.bad.ensures _; stored = refl })
