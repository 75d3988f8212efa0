-- Laws of the keys that a message's lookup compares: none before 13, and never more than the binary digits of the most keys of a file,
-- which are few beside the message's bytes.
use Rattle.std.specs.Prelude.{ℕ, ◌*◌, ◌≤◌, ◌≡◌, true, false, List, length, Ok, Err}
use Rattle.std.proofs.Math.Path.{refl, subst}
use Rattle.std.proofs.Common.{sym, ap, ◌∙◌, true≢false}
use Rattle.std.proofs.Math.Option.{Option, none, some}
use native.Mathlib.Omega.{arith}
use Rattle.laws.specs.Rules.{Rule}
use Rattle.laws.specs.RulesLaws.{EachBroken, each_append, of_broken, broken_some}
use Rattle.lookup.specs.declared.lookup.Sought.{Sought}
use Rattle.lookup.specs.Answers.{Reports}
use Rattle.lookup.specs.Halving.{digits}
use Rattle.lookup.specs.HalvingLaws.{digits_climb}
use Rattle.lookup.specs.Lookup.{segment_of, lookup}
use Rattle.lookup.specs.LookupLaws.{segment_has, lookup_steps}
use Rattle.pairs.specs.Lists.{Lists, Headers}
use Rattle.pairs.specs.Items.{file_of, habit_of}
use Rattle.pairs.specs.ItemsLaws.{header_of, segments_of_lem}
use Rattle.forms.specs.declared.forms.Item.{Item}
use Rattle.forms.specs.declared.forms.Item.TheVariants.{Contract, Pair}
use Rattle.forms.specs.declared.forms.Named.{Named}
use Rattle.forms.specs.declared.forms.Named.TheVariants as is
use Rattle.forms.specs.declared.forms.Subject.{Subject}
use Rattle.forms.specs.declared.forms.Subject.TheVariants.{Nothing, Of}
use Rattle.forms.specs.declared.forms.Form.{Form}
use Rattle.forms.specs.Forms.{named_rows, rows_of, subject_of}
use Rattle.forms.specs.declared.forms.Form.TheVariants.{Heartbeat, LevelOne, LevelTwo, PairOne, PairTwo, FutureOne, FutureTwo, PreOpenOne, PreOpenTwo}
use Rattle.forms.specs.Rows.{message_length}
use Rattle.head.specs.declared.head.Fault.{Fault}
use Rattle.head.specs.Faults.{Head}
use Rattle.head.specs.Fields.{length_of}
use Rattle.head.specs.Head.{frame_rules, form_rules, head_rules}
use Rattle.head.specs.HeadLaws.{framed_exact}
use Rattle.head.specs.Rules.{first_fault, head_of}
use Rattle.head.specs.RulesLaws.{good_hold, bad_broken}
use Rattle.message.specs.CallerLaws.{form_length, acts_as_lem}
use Rattle.message.specs.MessageLaws.{bad_head}
use Rattle.message.specs.Reads.{message_of}
use Rattle.message.specs.Message.{Message, message_key, acts_as}
use Rattle.message.specs.Compared.{compared_there, keys_there, compared_for, compared_as, message_compared, key_sought, Seeks}

-- a lookup in a segment reports what is sought
pub seeks : (item : Item) (lists : Lists) (key : List ℕ) (segment : ℕ) {keys : ℕ} {answer : Sought} → Reports (lookup (habit_of item) (file_of item lists) segment key) keys answer
    → Seeks item lists key (some segment) answer
seeks item lists key segment r = record { place = r.place; steps = r.steps }

-- ---- no rule before 13 comes behind the lookup

first_early : (rules : List (Rule Fault)) → EachBroken (λ fault. key_sought fault ≡ false) rules → {fault : Fault} → first_fault rules ≡ Err fault → key_sought fault ≡ false
first_early rules early {fault} e = of_broken (λ fault. key_sought fault ≡ false) rules early fault (broken_some rules fault (bad_broken rules fault e))

frame_rules_lem : (letter : ℕ) (segment : Option ℕ) (bytes : List ℕ) → EachBroken (λ fault. key_sought fault ≡ false) (frame_rules letter segment bytes)
frame_rules_lem letter segment bytes = ((λ broken. refl), ((λ broken. refl), ((λ broken. refl), tt)))

form_rules_lem : (bytes : List ℕ) → EachBroken (λ fault. key_sought fault ≡ false) (form_rules bytes)
form_rules_lem bytes = ((λ broken. refl), ((λ broken. refl), ((λ broken. refl), tt)))

pub frame_early : (letter : ℕ) (segment : Option ℕ) (bytes : List ℕ) {fault : Fault} → first_fault (frame_rules letter segment bytes) ≡ Err fault → key_sought fault ≡ false
frame_early letter segment bytes = first_early (frame_rules letter segment bytes) (frame_rules_lem letter segment bytes)

pub form_early : (bytes : List ℕ) {fault : Fault} → first_fault (form_rules bytes) ≡ Err fault → key_sought fault ≡ false
form_early bytes = first_early (form_rules bytes) (form_rules_lem bytes)

-- so a message that is refused behind its lookup has a good head, and lies within the bytes
pub sought_inside : (lists : Lists) (letter : ℕ) (bytes : List ℕ) (fault : Fault) → (message_of lists letter bytes).what ≡ Err fault → key_sought fault ≡ true → length_of bytes ≤ length bytes
unfolding head_of
sought_inside lists letter bytes fault e sought = go (head_of letter (segment_of lists.contracts letter) bytes) refl
  where
    go : (h : Head) → head_of letter (segment_of lists.contracts letter) bytes ≡ h → length_of bytes ≤ length bytes
    go (Ok _) f = ((framed_exact bytes).0 (good_hold (head_rules letter (segment_of lists.contracts letter) bytes) f).0).within
    go (Err other) f =
        let early =
        first_early (head_rules letter (segment_of lists.contracts letter) bytes)
        (each_append (λ (f : Fault). key_sought f ≡ false) (frame_rules letter (segment_of lists.contracts letter) bytes) (form_rules bytes) (frame_rules_lem letter (segment_of lists.contracts letter) bytes) (form_rules_lem bytes)) f in
        let same : Err other ≡ Err fault = sym (ap (λ (m : Message). m.what) (bad_head lists letter bytes other f)) ∙ e in
        let is : other ≡ fault = cc in
        absurd (true≢false (sym sought ∙ ap key_sought (sym is) ∙ early))

-- ---- the worst case

-- M-102: the most keys that the lookup of a contract compares, and of a pair: 13 and 11
pub contract_most : digits (habit_of Contract).most ≡ 13
contract_most = refl

pub pair_most : digits (habit_of Pair).most ≡ 11
pair_most = refl

-- an update has 204 bytes or more, and of a pair, of which fewer keys are compared, 227
abbrev LongEnough : Subject → Form → Type 0
LongEnough Nothing form = Unit {0}
LongEnough (Of item level) form = 204 * digits (habit_of item).most ≤ 13 * message_length (rows_of form)

long_enough : (form : Form) → LongEnough (subject_of form) form
unfolding rows_of named_rows
long_enough Heartbeat = tt
long_enough LevelOne = omega (arith, contract_most)
long_enough LevelTwo = omega (arith, contract_most)
long_enough PairOne = omega (arith, pair_most)
long_enough PairTwo = omega (arith, pair_most)
long_enough FutureOne = omega (arith, contract_most)
long_enough FutureTwo = omega (arith, contract_most)
long_enough PreOpenOne = omega (arith, contract_most)
long_enough PreOpenTwo = omega (arith, contract_most)

item_most : (item : Item) → digits (habit_of item).most ≤ 13
item_most Contract = omega (arith, contract_most)
item_most Pair = omega (arith, pair_most)

module _ (lists : Lists) (headers : Headers lists) (letter : ℕ) where
  -- no lookup compares more keys than the most of its file has binary digits
  pub item_compared : (item : Item) (key : List ℕ) → compared_there item lists key (segment_of lists.contracts letter) ≤ digits (habit_of item).most
  item_compared item key = go (segment_of lists.contracts letter) refl
    where
      go : (o : Option ℕ) → segment_of lists.contracts letter ≡ o → compared_there item lists key o ≤ digits (habit_of item).most
      go none e = omega arith
      go (some i) e =
          let inside = (segment_has lists.contracts letter i e).0 in
          let few = (header_of lists headers item).few_keys i (rw (segments_of_lem lists headers item) inside) in
          omega (arith, lookup_steps (habit_of item) (file_of item lists) i key, digits_climb _ _ few)

  -- so that a message's compares at most 13
  pub message_most : (bytes : List ℕ) → message_compared lists letter bytes ≤ 13
  unfolding message_compared
  message_most bytes = named (acts_as bytes)
    where
      told : (subject : Subject) → compared_for subject (keys_there lists bytes (segment_of lists.contracts letter)) ≤ 13
      told Nothing = omega arith
      told (Of item level) = omega (arith, item_compared item (message_key item bytes), item_most item)

      named : (n : Named) → compared_as n (keys_there lists bytes (segment_of lists.contracts letter)) ≤ 13
      named (is.Form form) = told (subject_of form)
      named is.NoLength = omega arith
      named is.PassedOver = omega arith

  -- and 13 for each 204 bytes of it, since an update has no fewer
  pub message_long : (bytes : List ℕ) → 204 * message_compared lists letter bytes ≤ 13 * length_of bytes
  unfolding message_compared
  message_long bytes = named (acts_as bytes) refl
    where
      told : (form : Form) → acts_as bytes ≡ is.Form form → (subject : Subject) → subject_of form ≡ subject
          → 204 * compared_for subject (keys_there lists bytes (segment_of lists.contracts letter)) ≤ 13 * length_of bytes
      told form e Nothing s = omega arith
      told form e (Of item level) s =
          let wide = subst (λ (subject : Subject). LongEnough subject form) s (long_enough form) in
          rw (form_length bytes form (acts_as_lem bytes form e)) (omega (arith, wide, item_compared item (message_key item bytes)))

      named : (n : Named) → acts_as bytes ≡ n → 204 * compared_as n (keys_there lists bytes (segment_of lists.contracts letter)) ≤ 13 * length_of bytes
      named (is.Form form) e = told form e (subject_of form) refl
      named is.NoLength e = omega arith
      named is.PassedOver e = omega arith
