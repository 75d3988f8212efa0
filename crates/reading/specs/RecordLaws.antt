-- Laws of reading a record: where it stands, and its cells by row.
use Rattle.std.specs.Prelude.{ℕ, ◌+◌, ◌-◌, ◌≤◌, ◌<◌, ◌≡◌, refl, Bool, List, [], ◌∷◌, ◌++◌, length, take, drop, replicate, Ok, Err}
use Rattle.std.proofs.Math.Path.{ap, sym}
use Rattle.std.proofs.Common.{ap₂, ◌∙◌, arith, length-append, length-drop, length-take-le}
use Rattle.std.proofs.Math.Option.{Option, none, some}
use Rattle.std.proofs.lemmas.List.{length-replicate}
use Rattle.std.proofs.Math.Seq.{paste}
use Rattle.laws.specs.Choice.{clash}
use Rattle.laws.specs.Rules.{first_broken}
use Rattle.laws.specs.RulesLaws.{front_broken, last_holds, last_broken}
use Rattle.files.specs.File.{count_at}
use Rattle.pairs.specs.Lists.{Headers}
use Rattle.lookup.specs.Lookup.{segment_of}
use Rattle.lookup.specs.LookupLaws.{segment_has, key_at_place}
use Rattle.forms.specs.declared.rows.Level.{Level}
use Rattle.forms.specs.declared.rows.Level.TheVariants.{One, Two}
use Rattle.forms.specs.declared.forms.Item.{Item}
use Rattle.forms.specs.declared.forms.Item.TheVariants.{Contract, Pair}
use Rattle.forms.specs.Forms.{named_rows, rows_of, key_rows_of}
use Rattle.forms.specs.Sizes.{most_rows}
use Rattle.head.specs.Tests.{is_some}
use Rattle.pairs.specs.Items.{file_of, habit_of}
use Rattle.pairs.specs.ItemsLaws.{habit_few, header_of, segments_of_lem}
use Rattle.message.specs.Message.{place_in, place_there, key_place}
use Rattle.state.specs.Memory.{Lent}
use Rattle.slots.specs.Slots.{slot, cells_in_front}
use Rattle.slots.specs.SlotsLaws.{slot_inside, cells_by_rows}
use Rattle.slots.specs.Places.{slot_at, slot_in, record_rows, record_at, front_of}
use Rattle.state.specs.declared.refusal.Refusal.{Refusal}
use Rattle.state.specs.declared.refusal.Refusal.TheVariants as refusal
use Rattle.state.specs.Refusals.{Rule}
use Rattle.state.specs.AnswersLaws.{accepted_by, refused_by_lem}
use Rattle.state.specs.State.{segment_rules}
use Rattle.state.specs.StateLaws.{state_held}
use Rattle.reading.specs.Record.{slot_there, record_of_key, Finds, stamp_seen, cells_at}
use Rattle.reading.specs.ReadRules.{record_rules}

zeros_behind_lem : (item : Item) (level : Level)
    → drop {A = ℕ} (key_rows_of item + record_rows item level) (replicate most_rows 0) ≡ replicate (most_rows - (key_rows_of item + record_rows item level)) 0
unfolding record_rows rows_of named_rows
zeros_behind_lem Contract One = refl
zeros_behind_lem Contract Two = refl
zeros_behind_lem Pair One = refl
zeros_behind_lem Pair Two = refl

key_zeros : (item : Item) → take {A = ℕ} (key_rows_of item) (replicate most_rows 0) ≡ replicate (key_rows_of item) 0
key_zeros Contract = refl
key_zeros Pair = refl

-- the record's cells copied over zeros, behind the key's
pub cells_copied : (item : Item) (stamped : Bool) (records : List ℕ) (at : ℕ) (level : Level) → at + cells_in_front item + record_rows item level ≤ length records
    → stamp_seen stamped (paste (replicate most_rows 0) (key_rows_of item) (drop (at + cells_in_front item) records) (record_rows item level)) ≡ cells_at item stamped records at level
unfolding cells_at
cells_copied item stamped records at level h =
    let rows : ℕ = record_rows item level in
    let behind : List ℕ = drop (at + cells_in_front item) records in
    let part : List ℕ = take rows behind in
    let front : List ℕ = replicate (key_rows_of item) 0 ++ part in
    let there : length part ≡ rows = length-take-le rows behind (simp length-drop (omega arith)) in
    let long : key_rows_of item + rows ≡ length front = simp (length-append, length-replicate, there) in
    ap (stamp_seen stamped)
    (ap₂ (λ (zeros behind : List ℕ). zeros ++ part ++ behind) (key_zeros item) (zeros_behind_lem item level ∙ ap (λ (n : ℕ). replicate (most_rows - n) 0) long))

-- ---- the rules

module _ (item : Item) (lent : Lent) (letter : ℕ) (key : List ℕ) where
  abbrev listed : Rule
  listed = record { holds = is_some (key_place item lent.lists letter key); refusal = refusal.Contract 0 }

  pub segment_broken : (r : Refusal) → first_broken (segment_rules lent letter) ≡ some r → first_broken (record_rules item lent letter key) ≡ some r
  unfolding record_rules
  segment_broken r e = front_broken (segment_rules lent letter) (listed ∷ []) r e

  module _ (e : first_broken (segment_rules lent letter) ≡ none) (i : ℕ) (s : segment_of lent.lists.contracts letter ≡ some i) where
    key_place_lem : key_place item lent.lists letter key ≡ place_in item lent.lists i key
    unfolding key_place
    key_place_lem = ap (place_there item lent.lists key) s

    pub key_broken : place_in item lent.lists i key ≡ none → first_broken (record_rules item lent letter key) ≡ some (refusal.Contract 0)
    unfolding record_rules
    key_broken n = last_broken (segment_rules lent letter) listed e (ap is_some (key_place_lem ∙ n))

    module _ (place : ℕ) (found : place_in item lent.lists i key ≡ some place) where
      pub key_holds : first_broken (record_rules item lent letter key) ≡ none
      unfolding record_rules
      key_holds = last_holds (segment_rules lent letter) listed e (ap is_some (key_place_lem ∙ found))

      -- behind the records of the segments before it
      pub record_found : (level : Level) → record_at item (front_of item lent.lists i) place level ≡ record_of_key item lent.lists letter key level
      unfolding record_of_key
      record_found level =
          sym (ap (λ (o : Option ℕ). slot_at lent.lists (slot_there item lent.lists letter level o)) (key_place_lem ∙ found)
          ∙ ap (λ (o : Option ℕ). slot_at lent.lists (slot_in item o place level)) s)

      abbrev headers : Headers lent.lists
      headers = (state_held lent letter e).headers

      place_under : place < count_at (file_of item lent.lists) i
      place_under = (key_at_place (habit_of item) (file_of item lent.lists) i key place found).0

      pub place_few : place < 65536
      place_few =
          let inside = (segment_has lent.lists.contracts letter i s).0 in
          omega (arith, place_under, habit_few item ((header_of lent.lists headers item).few_keys i (rw (segments_of_lem lent.lists headers item) inside)))

      -- the record lies in the cells lent
      pub record_lent : (level : Level) → record_at item (front_of item lent.lists i) place level + cells_in_front item + record_rows item level ≤ length lent.records
      record_lent level =
          let there = (segment_has lent.lists.contracts letter i s).0 in
          omega (arith, (state_held lent letter e).records_lent, slot_inside lent.lists headers (slot item i place level) (there, place_under), cells_by_rows item level)

-- ---- the record that is found

module _ (item : Item) (lent : Lent) (letter : ℕ) (key : List ℕ) (level : Level) where
  abbrev checks : Option Refusal
  checks = first_broken (record_rules item lent letter key)

  abbrev here : ℕ
  here = record_of_key item lent.lists letter key level

  abbrev pub FoundAt : ℕ → Type 0
  FoundAt at = (checks ≡ none) × (at ≡ here) × (at + cells_in_front item + record_rows item level ≤ length lent.records)

  pub finds_at : checks ≡ none → {at : ℕ} → at ≡ here → at + cells_in_front item + record_rows item level ≤ length lent.records → Finds item lent letter key level (Ok at)
  finds_at e same there = record { says = rw (e, same); inside = λ _. rw (← same) there }

  pub finds_refused : (r : Refusal) → checks ≡ some r → Finds item lent letter key level (Err r)
  finds_refused r e = record { says = rw e; inside = λ n. absurd (clash (cc)) }

module _ {item : Item} {lent : Lent} {letter : ℕ} {key : List ℕ} {level : Level} where
  pub found_at : {at : ℕ} → Finds item lent letter key level (Ok at) → FoundAt item lent letter key level at
  found_at {at} f =
      let t = accepted_by (checks item lent letter key level) (here item lent letter key level ∷ []) (at ∷ []) f.says in
      let same : at ≡ here item lent letter key level = cc t.1 in
      (t.0, same, rw same (f.inside t.0))

  pub found_refused : {r : Refusal} → Finds item lent letter key level (Err r) → checks item lent letter key level ≡ some r
  found_refused {r} f = refused_by_lem (checks item lent letter key level) (here item lent letter key level ∷ []) r f.says
