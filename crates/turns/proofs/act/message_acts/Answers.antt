-- Each kind of message by its law.
-- where nothing would be changed, or the number isn't taken, the records are as they were
use Rattle.std.specs.Prelude.{Result, Ok, Err}
use Rattle.std.proofs.Common.{ℕ, ◌≡◌, true, false, ap, refl, sym, ◌∙◌, List, rules}
use Rattle.std.proofs.lemmas.Bool.{false≢true}
use Rattle.pairs.specs.Lists.{lists}
use Rattle.forms.specs.Forms.{subject_of}
use Rattle.message.specs.Reads.{message_of}
use Rattle.message.specs.MessageLaws.{outline_told}
use Rattle.message.specs.NumbersLaws.{what_told}
use Rattle.state.specs.declared.refusal.Refusal.{Refusal}
use Rattle.turns.specs.declared.act.Act.{Act}
use Rattle.turns.specs.declared.act.Act.TheVariants.{Taken, Old, Heartbeat}
use Rattle.turns.specs.Acts.{changed_by, is_taken}
use Rattle.turns.specs.ActsLaws.{heartbeat_acts, numbered, bad_acts}
use Rattle.turns.specs.Turns.{Box, updated}
use Rattle.lookup.specs.Lookup.{segment_of}
use Rattle.stores.specs.StoresLaws.{none_kept}
use Rattle.turns.specs.UpdateLaws.{fronts_near, place_few, update_kept}
use Rattle.turns.proofs.act.message_acts.Goals as goal

changes-nothing : (a : Result Act Refusal) (records : List ℕ) → changed_by a (λ (r : List ℕ). r) records ≡ records
changes-nothing (Ok Taken) records = refl
changes-nothing (Ok Old) records = refl
changes-nothing (Ok Heartbeat) records = refl
changes-nothing (Err refusal) records = refl

taken : (a : Result Act Refusal) → is_taken a ≡ true → a ≡ Ok Taken
taken (Ok Taken) t = refl
taken (Ok Old) t = absurd (false≢true t)
taken (Ok Heartbeat) t = absurd (false≢true t)
taken (Err refusal) t = absurd (false≢true t)

not_taken : (a : Result Act Refusal) → is_taken a ≡ false → (changed : List ℕ → List ℕ) (records : List ℕ) → changed_by a changed records ≡ records
not_taken (Ok Taken) t changed records = absurd (false≢true (sym t))
not_taken (Ok Old) t changed records = refl
not_taken (Ok Heartbeat) t changed records = refl
not_taken (Err refusal) t changed records = refl

pub keep_update-kept-requires : goal.keep_update-kept-requires
keep_update-kept-requires c =
    let a = c.args in
    let both = lists a.there.now.list.now a.there.now.spreads.now in
    let message = message_of both a.there.now.letter a.bytes.now in
    let what_is = sym (what_told c.read-message.ensures.told.tells) ∙ c.in-Ok.is ∙ ap Ok c.in-Update.is in (
      c.requires.within,
      fronts_near both c.requires.headers a.there.now.letter a.there.now.fronts c.requires.fronts_are a.bytes.now message refl what_is,
      place_few both c.requires.headers a.there.now.letter a.there.now.fronts c.requires.fronts_are a.bytes.now message refl what_is,
    )

pub returns-in-Heartbeat : goal.returns-in-Heartbeat
returns-in-Heartbeat c =
    let message = message_of (lists c.args.there.now.list.now c.args.there.now.spreads.now) c.args.there.now.letter c.args.bytes.now in
    let what_is = sym (what_told c.read-message.ensures.told.tells) ∙ c.in-Ok.is ∙ ap Ok c.in-Heartbeat.is in
    rw (outline_told c.read-message.ensures.told) (heartbeat_acts _ _ _ message refl what_is _ _ _ _ c.requires.sound c.requires.within refl)

pub returns-in-PassedOver : goal.returns-in-PassedOver
returns-in-PassedOver c =
    let message = message_of (lists c.args.there.now.list.now c.args.there.now.spreads.now) c.args.there.now.letter c.args.bytes.now in
    let what_is = sym (what_told c.read-message.ensures.told.tells) ∙ c.in-Ok.is ∙ ap Ok c.in-PassedOver.is in
    rw (outline_told c.read-message.ensures.told)
    (numbered _ _ _ message refl what_is _ _ _ _ _ _ (λ (records : List ℕ). records) refl (λ (box : Box). refl) _ c.number_acts.ensures _ _
    (none_kept _ _ _ _ c.requires.within (changed_by c.number_acts.result (λ (records : List ℕ). records)) (changes-nothing c.number_acts.result)))

pub returns-then-is_taken : goal.returns-then-is_taken
returns-then-is_taken c =
    let a = c.args in
    let both = lists a.there.now.list.now a.there.now.spreads.now in
    let message = message_of both a.there.now.letter a.bytes.now in
    let what_is = sym (what_told c.read-message.ensures.told.tells) ∙ c.in-Ok.is ∙ ap Ok c.in-Update.is in
    let changed : List ℕ → List ℕ = updated both (segment_of both.contracts a.there.now.letter) c.in-Update.place (subject_of c.in-Update.form) c.in-Update.form c.in-Update.number message.cells in
    rw (outline_told c.read-message.ensures.told)
    (numbered _ _ _ message refl what_is _ _ _ _ _ _ changed refl (λ (box : Box). refl) _ c.number_acts-act.ensures _ _
    (update_kept both c.requires.headers a.there.now.letter a.there.now.fronts c.requires.fronts_are a.bytes.now message refl what_is
    c.number_acts-act.result (taken _ (sym c.is_taken.ensures ∙ c.if-is_taken.true)) a.stores.now a.kept c.requires.within a.cells.now _ c.read-message.ensures.stored (search rules) _ _ c.keep_update-kept.ensures))

pub returns-else-is_taken : goal.returns-else-is_taken
returns-else-is_taken c =
    let a = c.args in
    let both = lists a.there.now.list.now a.there.now.spreads.now in
    let message = message_of both a.there.now.letter a.bytes.now in
    let what_is = sym (what_told c.read-message.ensures.told.tells) ∙ c.in-Ok.is ∙ ap Ok c.in-Update.is in
    let changed : List ℕ → List ℕ = updated both (segment_of both.contracts a.there.now.letter) c.in-Update.place (subject_of c.in-Update.form) c.in-Update.form c.in-Update.number message.cells in
    rw (outline_told c.read-message.ensures.told)
    (numbered _ _ _ message refl what_is _ _ _ _ _ _ changed refl (λ (box : Box). refl) _ c.number_acts-act.ensures _ _
    (none_kept _ _ _ _ c.requires.within (changed_by c.number_acts-act.result changed) (not_taken c.number_acts-act.result (sym c.is_taken.ensures ∙ c.if-is_taken.false) changed)))

pub returns-in-Err : goal.returns-in-Err
returns-in-Err c =
    let message = message_of (lists c.args.there.now.list.now c.args.there.now.spreads.now) c.args.there.now.letter c.args.bytes.now in
    let what_is = sym (what_told c.read-message.ensures.told.tells) ∙ c.in-Err.is in
    rw (outline_told c.read-message.ensures.told) (bad_acts _ _ _ message refl what_is _ _ _ _ c.requires.sound c.requires.within _ refl _ c.of_fault.ensures)
