-- A key's place by what the lists hold; proofs/GoodLaws has what a good message is.
use Rattle.std.specs.Prelude.{ℕ, ◌<◌, ◌≡◌, refl, ◌↔◌, List}
use Rattle.std.proofs.Math.Option.{Option, none, some}
use Rattle.forms.specs.declared.forms.Item.{Item}
use Rattle.forms.specs.declared.forms.Named.{Named}
use Rattle.forms.specs.declared.forms.Named.TheVariants as is
use Rattle.forms.specs.declared.forms.Subject.{Subject}
use Rattle.forms.specs.declared.forms.Subject.TheVariants.{Nothing, Of}
use Rattle.lookup.specs.Lookup.{segment_of}
use Rattle.lookup.specs.LookupLaws.{segment_exact, key_exact}
use Rattle.files.specs.File.{segments_of}
use Rattle.pairs.specs.Lists.{Lists, Headers, SoundLists}
use Rattle.laws.specs.Choice.{never}
use Rattle.forms.specs.Forms.{subject_of}
use Rattle.message.specs.Good.{PlaceFor, HasContract, KeyListed, KeyFor, HasListedKey}
use Rattle.message.specs.Message.{place_there, key_place}
use Rattle.pairs.specs.Items.{file_of}
use Rattle.pairs.specs.ItemsLaws.{sound_headers, segments_of_lem, sound_of}

-- of sound lists, a key has a place exactly when it is one of its file's
pub key_listed : (item : Item) (lists : Lists) → SoundLists lists → (letter : ℕ) (key : List ℕ)
    → ((k : ℕ) × (key_place item lists letter key ≡ some k)) ↔ KeyListed item lists letter key
unfolding key_place
key_listed item lists sound letter key = ((λ h. there (segment_of lists.contracts letter) refl h.0 h.1), back)
  where
    headers : Headers lists
    headers = sound_headers sound

    listed : {i : ℕ} → i < segments_of lists.contracts → i < segments_of (file_of item lists)
    listed h = rw (segments_of_lem lists headers item) h

    there : (o : Option ℕ) → segment_of lists.contracts letter ≡ o → (k : ℕ) → place_there item lists key o ≡ some k → KeyListed item lists letter key
    there none e k h = absurd (never h)
    there (some i) e k h =
        let s = (segment_exact lists.contracts headers.contracts_header letter i).0 e in
        let p = (key_exact (file_of item lists) i key (sound_of lists sound item) (listed s.0) k).0 h in
        (i, k, s.0, s.1, p.0, p.1)

    back : KeyListed item lists letter key → (k : ℕ) × (place_there item lists key (segment_of lists.contracts letter) ≡ some k)
    back h =
        (h.1, rw ((segment_exact lists.contracts headers.contracts_header letter h.0).1 (h.2, h.3)) ((key_exact (file_of item lists) h.0 key (sound_of lists sound item) (listed h.2) h.1).1 (h.4, h.5)))

-- 13 of sound lists: the key is one of its file's
pub contract_listed : (lists : Lists) → SoundLists lists → (letter : ℕ) (key : Item → List ℕ) (named : Named)
    → HasContract named (λ item. key_place item lists letter (key item)) ↔ HasListedKey named lists letter key
contract_listed lists sound letter key (is.Form form) = by_subject (subject_of form)
  where
    by_subject : (subject : Subject) → PlaceFor subject (λ item. key_place item lists letter (key item)) ↔ KeyFor subject lists letter key
    by_subject Nothing = ((λ h. tt), (λ h. tt))
    by_subject (Of item level) = key_listed item lists sound letter (key item)
contract_listed lists sound letter key is.NoLength = ((λ h. tt), (λ h. tt))
contract_listed lists sound letter key is.PassedOver = ((λ h. tt), (λ h. tt))
