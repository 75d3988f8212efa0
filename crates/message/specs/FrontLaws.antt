-- A message is the bytes that its length counts: what stands behind them makes no difference.
use Rattle.std.specs.Prelude.{ℕ, ◌+◌, ◌-◌, ◌≤◌, ◌≡◌, List, length, take}
use Rattle.std.proofs.Common.{ap, sym, ◌∙◌, arith, length-take-le}
use Rattle.std.proofs.Math.Seq.{take-take}
use Rattle.laws.specs.Lists.{part_of_front}
use Rattle.wire.specs.NumberLaws.{number_of_front}
use Rattle.wire.specs.Number.{number_at}
use Rattle.std.proofs.Math.Option.{Option}
use Rattle.lookup.specs.Lookup.{segment_of}
use Rattle.pairs.specs.Lists.{Lists}
use Rattle.forms.specs.Sizes.{bare_length}
use Rattle.head.specs.GoodHead.{Framed}
use Rattle.head.specs.Fields.{data_at, letter_of, segment_letter_of, second_of, length_of, number_of, data_of, sum_sent, end_byte, form_in, sum_in, right_sum}
use Rattle.head.specs.Rules.{head_of}
use Rattle.head.specs.Tests.{framed, coded, trailed, summed}
use Rattle.head.specs.HeadLaws.{framed_exact}
use Rattle.forms.specs.declared.forms.Item.{Item}
use Rattle.forms.specs.Forms.{key_bytes_of}
use Rattle.message.specs.Message.{message_key, key_place, message_place, acts_as}
use Rattle.message.specs.Reads.{contents_by, contents_of, message_of}

-- the length stands in the first four bytes
front_length : (s : List ℕ) (n : ℕ) → 4 ≤ n → length_of (take n s) ≡ length_of s
unfolding length_of
front_length s n h = number_of_front 2 n s 2 h

-- the message's own bytes
abbrev pub own_bytes : List ℕ → List ℕ
own_bytes bytes = take (length_of bytes) bytes

module _ (bytes : List ℕ) (f : Framed bytes) where
  number_same : (width at : ℕ) → at + width ≤ length_of bytes → number_at width (own_bytes bytes) at ≡ number_at width bytes at
  number_same width at h = number_of_front width (length_of bytes) bytes at h

  length_same : length_of (own_bytes bytes) ≡ length_of bytes
  length_same = front_length bytes (length_of bytes) (omega arith)

  letter_same : letter_of (own_bytes bytes) ≡ letter_of bytes
  unfolding letter_of
  letter_same = number_same 1 0 (omega arith)

  second_same : second_of (own_bytes bytes) ≡ second_of bytes
  unfolding second_of
  second_same = number_same 1 1 (omega arith)

  sequence_same : number_of (own_bytes bytes) ≡ number_of bytes
  unfolding number_of
  sequence_same = number_same 4 4 (omega arith)

  form_same : form_in (own_bytes bytes) ≡ form_in bytes
  unfolding form_in
  form_same = rw (letter_same, second_same, length_same)

  segment_same : segment_letter_of (own_bytes bytes) ≡ segment_letter_of bytes
  unfolding segment_letter_of
  segment_same = rw letter_same

  sum_same : sum_in (own_bytes bytes) ≡ sum_in bytes
  unfolding sum_in
  sum_same = rw (letter_same, second_same)

  end_same : end_byte (own_bytes bytes) ≡ end_byte bytes
  unfolding end_byte
  end_same = rw length_same (number_same 1 (length_of bytes - 1) (omega arith))

  sent_same : sum_sent (own_bytes bytes) ≡ sum_sent bytes
  unfolding sum_sent
  sent_same = rw (length_same, number_same 1 (length_of bytes - 3) (omega arith), number_same 1 (length_of bytes - 2) (omega arith))

  right_same : right_sum (own_bytes bytes) ≡ right_sum bytes
  unfolding right_sum
  right_same = rw (length_same, take-take (length_of bytes - 3) (length_of bytes) bytes (omega arith))

  data_same : data_of (own_bytes bytes) ≡ data_of bytes
  unfolding data_of
  data_same = rw (length_same, part_of_front data_at (length_of bytes - bare_length) (length_of bytes) bytes (omega arith))

  acts_same : acts_as (own_bytes bytes) ≡ acts_as bytes
  unfolding acts_as
  acts_same = rw (form_same, data_same)

  own_framed : Framed (own_bytes bytes)
  own_framed =
      let long : length (own_bytes bytes) ≡ length_of bytes = length-take-le (length_of bytes) bytes f.within in
      record { begun = omega arith; least = rw length_same f.least; within = rw (length_same, long) (omega arith) }

  framed_same : framed (own_bytes bytes) ≡ framed bytes
  framed_same = (framed_exact (own_bytes bytes)).1 own_framed ∙ sym ((framed_exact bytes).1 f)

  module _ (letter : ℕ) (segment : Option ℕ) where
    coded_same : coded letter segment (own_bytes bytes) ≡ coded letter segment bytes
    unfolding coded
    coded_same = rw (segment_same, letter_same, second_same)

    head_same : head_of letter segment (own_bytes bytes) ≡ head_of letter segment bytes
    unfolding head_of trailed summed
    head_same = rw (framed_same, coded_same, end_same, form_same, sum_same, sent_same, right_same, sequence_same)

  module _ (lists : Lists) (letter : ℕ) where
    places_same : message_place lists letter (own_bytes bytes) ≡ message_place lists letter bytes
    unfolding message_key
    places_same = λ i item. key_place item lists letter (take (key_bytes_of item) (data_same i))

    by_place : (place : Item → Option ℕ) → contents_by place (own_bytes bytes) ≡ contents_by place bytes
    unfolding contents_by
    by_place place = rw (acts_same, form_same, length_same, data_same, sequence_same)

    pub contents_same : contents_of lists letter (own_bytes bytes) ≡ contents_of lists letter bytes
    contents_same = ap (λ (place : Item → Option ℕ). contents_by place (own_bytes bytes)) places_same ∙ by_place (message_place lists letter bytes)

    pub message_same : message_of lists letter (own_bytes bytes) ≡ message_of lists letter bytes
    unfolding message_of
    message_same = rw (head_same letter (segment_of lists.contracts letter), length_same, contents_same)

-- two strings that begin with the same message
module _ (a b : List ℕ) (f : Framed a) (there : length_of a ≤ length b) (same : take (length_of a) a ≡ take (length_of a) b) where
  other_length : length_of b ≡ length_of a
  other_length =
      sym (front_length b (length_of a) (omega arith)) ∙ ap length_of (sym same) ∙ front_length a (length_of a) (omega arith)

  pub other_framed : Framed b
  other_framed = record { begun = omega arith; least = rw other_length f.least; within = rw other_length there }

  pub same_message : (lists : Lists) (letter : ℕ) → message_of lists letter a ≡ message_of lists letter b
  same_message lists letter =
      sym (message_same a f lists letter) ∙ ap (message_of lists letter) (same ∙ ap (λ (n : ℕ). take n b) (sym other_length)) ∙ message_same b other_framed lists letter
