-- Messages and what is answered: 01 "Cases", P5's message, and one for each rule that the others leave standing.
use Rattle.std.specs.Prelude.{ℕ, ◌≡◌, refl, List, [], ◌∷◌, ◌++◌, map, replicate, get_or}
use Prim.Native.String.{String}
use Rattle.laws.specs.Texts.{codes}
use Rattle.accumulator.specs.Accumulator.{bit_step, byte_step}
use Rattle.scan.specs.Read.{read_as, step, walk}
use Rattle.files.specs.File.{segments_of, letter_at, count_at, offset_at, key_from}
use Rattle.lookup.specs.Halving.{halved_in}
use Rattle.pairs.specs.Lists.{lists}
use Rattle.lookup.specs.Lookup.{segment_of, lookup}
use Rattle.layout.specs.Read.{read_row}
use Rattle.forms.specs.Sizes.{key_bytes, pair_bytes}
use Rattle.forms.specs.Forms.{named_rows, rows_of, meaning_of, form_of}
use Rattle.head.specs.Fields.{letter_of, segment_letter_of, second_of, length_of, number_of, data_of, sum_sent, end_byte, form_in, sum_in, right_sum}
use Rattle.head.specs.Rules.{head_of}
use Rattle.head.specs.Tests.{framed, coded, trailed, summed}
use Rattle.message.specs.Message.{message_key, key_place, acts_as}
use Rattle.message.specs.Reads.{contents_by, message_of}
use Rattle.message.specs.Numbers.{what_numbers}

-- 01 "The contract list": one contract, whose key is one byte throughout, makes 49 bytes with offset 10
abbrev pub list_of : ℕ → List ℕ
list_of letter = 0 ∷ 1 ∷ letter ∷ 0 ∷ 0 ∷ 1 ∷ 0 ∷ 0 ∷ 0 ∷ 10 ∷ replicate key_bytes 65

-- 01 "The contract list": the letter D
abbrev pub D : ℕ
D = 0x44

-- 01 "The contract list": the letter T
abbrev pub T : ℕ
T = 0x54

-- M-104: the letter F
abbrev pub F : ℕ
F = 0x46

-- M-104: the first byte of the codes of pre-open, which is no segment's letter
abbrev pub P : ℕ
P = 0x50

-- 01 "Cases": a letter that is listed, the letter of the first message, and the bytes left
pub record Given : Type 0 where
  pub listed : ℕ
  pub first : ℕ
  pub bytes : List ℕ

-- 01 "Cases": what is given, by its parts
abbrev pub given : ℕ → ℕ → List ℕ → Given
given listed first bytes = record { listed = listed; first = first; bytes = bytes }

-- 01 "The message": a D message of 11 bytes: its second byte, its number, its sum and its end byte
abbrev pub short : ℕ → ℕ → List ℕ → ℕ → List ℕ
short second number sum end = D ∷ second ∷ 0 ∷ 11 ∷ 0 ∷ 0 ∷ 0 ∷ number ∷ sum ++ (end ∷ [])

-- 01 "The message", M-104: an update of a contract: the first byte of its code, its length (2 bytes), its number below 256, a key of one
-- byte throughout, its market type, the text of the rows behind it, blank rows and its sum
abbrev pub update : ℕ → List ℕ → ℕ → ℕ → ℕ → String → ℕ → List ℕ → List ℕ
update letter long number byte market text blank sum =
    letter ∷ 0x4E ∷ long ++ (0 ∷ 0 ∷ 0 ∷ number ∷ replicate key_bytes byte) ++ (market ∷ codes text) ++ replicate blank 32 ++ sum ++ (13 ∷ [])

-- 01, the table of refusals: what is answered in the paper's numbers, and the length
abbrev pub answered : Given → List ℕ
answered g =
    let m = message_of (lists (list_of g.listed) []) g.first g.bytes in
    what_numbers m.what ++ (m.length ∷ [])

-- 01, the table's rows 5 to 13: messages that break one each, and good ones
abbrev pub messages : List Given
messages =
    -- P5, and the same where only T is listed, and in a batch that begins with T
    given D D (short 0x48 0 (0 ∷ 0 ∷ []) 13) ∷ given T D (short 0x48 0 (0 ∷ 0 ∷ []) 13) ∷ given T T (short 0x48 0 (0 ∷ 0 ∷ []) 13) ∷
    -- 7 bytes left; a length of 10; a length over what is left; more bytes behind the message
    given D D (D ∷ 0x48 ∷ 0 ∷ 11 ∷ 0 ∷ 0 ∷ 0 ∷ []) ∷ given D D (D ∷ 0x48 ∷ 0 ∷ 10 ∷ 0 ∷ 0 ∷ 0 ∷ 0 ∷ 0 ∷ 0 ∷ 13 ∷ []) ∷
    given D D (D ∷ 0x48 ∷ 0 ∷ 12 ∷ 0 ∷ 0 ∷ 0 ∷ 0 ∷ 0 ∷ 0 ∷ 13 ∷ []) ∷ given D D (short 0x48 0 (0 ∷ 0 ∷ []) 13 ++ (D ∷ [])) ∷
    -- a second byte h; an end byte 12; a heartbeat of 12 bytes; one with its right sum; one with number 1
    given D D (short 0x68 0 (0 ∷ 0 ∷ []) 13) ∷ given D D (short 0x48 0 (0 ∷ 0 ∷ []) 12) ∷
    given D D (D ∷ 0x48 ∷ 0 ∷ 12 ∷ 0 ∷ 0 ∷ 0 ∷ 0 ∷ 0 ∷ 0 ∷ 0 ∷ 13 ∷ []) ∷ given D D (short 0x48 0 (3 ∷ 91 ∷ []) 13) ∷
    given D D (short 0x48 1 (0 ∷ 0 ∷ []) 13) ∷
    -- end of feed: with sum zero, right, high byte first; with number 0
    given D D (short 0x45 1 (0 ∷ 0 ∷ []) 13) ∷ given D D (short 0x45 1 (40 ∷ 161 ∷ []) 13) ∷
    given D D (short 0x45 1 (161 ∷ 40 ∷ []) 13) ∷ given D D (short 0x45 0 (0 ∷ 0 ∷ []) 13) ∷
    -- an update of level 1, and of level 2; of 248 bytes; with sum zero
    given D D (update D (0 ∷ 249 ∷ []) 7 65 0x4E "" 198 (91 ∷ 132 ∷ [])) ∷ given D D (update D (1 ∷ 249 ∷ []) 7 65 0x4E "" 454 (102 ∷ 187 ∷ [])) ∷
    given D D (update D (0 ∷ 248 ∷ []) 7 65 0x4E "" 197 (0 ∷ 0 ∷ [])) ∷ given D D (update D (0 ∷ 249 ∷ []) 7 65 0x4E "" 198 (0 ∷ 0 ∷ [])) ∷
    -- its key not listed; and its market type O too
    given D D (update D (0 ∷ 249 ∷ []) 7 66 0x4E "" 198 (97 ∷ 150 ∷ [])) ∷ given D D (update D (0 ∷ 249 ∷ []) 7 66 0x4F "" 198 (205 ∷ 88 ∷ [])) ∷
    []

-- 01, the table of refusals: what is answered to each, and its length
abbrev pub answers : List (List ℕ)
answers =
    (0 ∷ 11 ∷ []) ∷ (6 ∷ 11 ∷ []) ∷ (6 ∷ 11 ∷ []) ∷
    (5 ∷ 11 ∷ []) ∷ (5 ∷ 10 ∷ []) ∷ (5 ∷ 12 ∷ []) ∷ (0 ∷ 11 ∷ []) ∷
    (6 ∷ 11 ∷ []) ∷ (7 ∷ 11 ∷ []) ∷ (8 ∷ 12 ∷ []) ∷ (9 ∷ 11 ∷ []) ∷ (10 ∷ 11 ∷ []) ∷
    (0 ∷ 1 ∷ 11 ∷ []) ∷ (0 ∷ 1 ∷ 11 ∷ []) ∷ (9 ∷ 11 ∷ []) ∷ (10 ∷ 11 ∷ []) ∷
    (0 ∷ 7 ∷ 1 ∷ 0 ∷ 249 ∷ []) ∷ (0 ∷ 7 ∷ 2 ∷ 0 ∷ 505 ∷ []) ∷ (8 ∷ 248 ∷ []) ∷ (9 ∷ 249 ∷ []) ∷
    (13 ∷ 249 ∷ []) ∷ (11 ∷ 5 ∷ 249 ∷ []) ∷
    []

pub messages_answered : map answered messages ≡ answers
unfolding bit_step byte_step step walk read_as segments_of letter_at count_at offset_at key_from halved_in segment_of lookup read_row named_rows rows_of meaning_of form_of letter_of segment_letter_of second_of length_of number_of data_of sum_sent end_byte form_in sum_in right_sum framed coded trailed summed head_of message_key key_place acts_as contents_by message_of
messages_answered = refl

-- ---- zero for the sum

-- M-101: a message of 11 bytes with number 1 and zero for its sum, for each code of a letter: A to Z
abbrev pub zero_summed : ℕ → List (List ℕ)
zero_summed letter = map (λ second. letter ∷ second ∷ 0 ∷ 11 ∷ 0 ∷ 0 ∷ 0 ∷ 1 ∷ 0 ∷ 0 ∷ 13 ∷ []) (codes "ABCDEFGHIJKLMNOPQRSTUVWXYZ")

-- M-101: C, E and O are good; H has no such number, N and P no such length; 9 for every other
abbrev pub zero_answers : List ℕ
zero_answers =
    9 ∷ 9 ∷ 0 ∷ 9 ∷ 0 ∷ 9 ∷ 9 ∷ 10 ∷ 9 ∷ 9 ∷ 9 ∷ 9 ∷ 9 ∷ 8 ∷ 0 ∷ 8 ∷ 9 ∷ 9 ∷ 9 ∷ 9 ∷ 9 ∷ 9 ∷ 9 ∷ 9 ∷ 9 ∷ 9 ∷ []

pub zeros_answered : map (λ letter. map (λ bytes. get_or (answered (given letter letter bytes)) 0 0) (zero_summed letter)) (D ∷ T ∷ []) ≡ zero_answers ∷ zero_answers ∷ []
unfolding bit_step byte_step step walk read_as segments_of letter_at count_at offset_at key_from halved_in segment_of lookup read_row named_rows rows_of meaning_of form_of letter_of segment_letter_of second_of length_of number_of data_of sum_sent end_byte form_in sum_in right_sum framed coded trailed summed head_of message_key key_place acts_as contents_by message_of
zeros_answered = refl

-- ---- pairs

-- M-100: one pair, of one contract with itself
abbrev pub pair_list : List ℕ
pair_list = 0 ∷ 1 ∷ D ∷ 0 ∷ 0 ∷ 1 ∷ 0 ∷ 0 ∷ 0 ∷ 10 ∷ replicate pair_bytes 65

-- M-100: a pair's update with number 7: its length (2 bytes), the second half of its key, of one byte throughout as the first is, the
-- text with which its prices begin, blank rows and its sum
abbrev pub pair_update : List ℕ → ℕ → String → ℕ → List ℕ → List ℕ
pair_update long byte text blank sum =
    D ∷ 0x50 ∷ long ++ (0 ∷ 0 ∷ 0 ∷ 7 ∷ replicate key_bytes 65) ++ replicate key_bytes byte ++ codes text ++ replicate blank 32 ++ sum ++ (13 ∷ [])

-- M-100: one of each level; 249 bytes long; with sum zero; a minus before the first digit, with a space behind it, and before a number
-- that is too large; a pair that is not listed, though both halves might be; and a minus in a contract's price
abbrev pub pair_messages : List (List ℕ)
pair_messages =
    pair_update (0 ∷ 227 ∷ []) 65 "" 138 (90 ∷ 89 ∷ []) ∷ pair_update (1 ∷ 227 ∷ []) 65 "" 394 (207 ∷ 22 ∷ []) ∷
    pair_update (0 ∷ 249 ∷ []) 65 "" 160 (0 ∷ 0 ∷ []) ∷ pair_update (0 ∷ 227 ∷ []) 65 "" 138 (0 ∷ 0 ∷ []) ∷
    pair_update (0 ∷ 227 ∷ []) 65 "               -5" 121 (140 ∷ 148 ∷ []) ∷
    pair_update (0 ∷ 227 ∷ []) 65 "              - 5" 121 (70 ∷ 205 ∷ []) ∷
    pair_update (0 ∷ 227 ∷ []) 65 "    -100000000000" 121 (165 ∷ 231 ∷ []) ∷
    pair_update (0 ∷ 227 ∷ []) 66 "" 138 (60 ∷ 6 ∷ []) ∷
    update D (0 ∷ 249 ∷ []) 7 65 0x4E "               -5" 181 (114 ∷ 110 ∷ []) ∷
    []

-- M-100, the table of refusals: what is answered to each
abbrev pub pair_answers : List (List ℕ)
pair_answers =
    (0 ∷ 7 ∷ 1 ∷ 0 ∷ []) ∷ (0 ∷ 7 ∷ 2 ∷ 0 ∷ []) ∷ (8 ∷ []) ∷ (9 ∷ []) ∷ (0 ∷ 7 ∷ 1 ∷ 0 ∷ []) ∷ (11 ∷ 10 ∷ []) ∷ (12 ∷ 10 ∷ []) ∷ (13 ∷ []) ∷ (11 ∷ 6 ∷ []) ∷ []

pub pairs_answered : map (λ bytes. what_numbers (message_of (lists (list_of D) pair_list) D bytes).what) pair_messages ≡ pair_answers
unfolding bit_step byte_step step walk read_as segments_of letter_at count_at offset_at key_from halved_in segment_of lookup read_row named_rows rows_of meaning_of form_of letter_of segment_letter_of second_of length_of number_of data_of sum_sent end_byte form_in sum_in right_sum framed coded trailed summed head_of message_key key_place acts_as contents_by message_of
pairs_answered = refl

-- ---- futures and options

-- M-104: in a batch of F: FN, PN, and FN of level 2; 004's older FN of 193 bytes; market type X; a time stamp with a point; a key that
-- isn't listed, with market type N, O, S and A
abbrev pub futures : List (List ℕ)
futures =
    update F (0 ∷ 204 ∷ []) 7 65 0x4E " 1700000000     86.25" 132 (236 ∷ 167 ∷ []) ∷
    update P (0 ∷ 204 ∷ []) 7 65 0x4E " 1700000000     86.25" 132 (23 ∷ 98 ∷ []) ∷
    update F (1 ∷ 148 ∷ []) 7 65 0x4E "" 353 (35 ∷ 102 ∷ []) ∷ update F (0 ∷ 193 ∷ []) 7 65 0x4E "" 142 (0 ∷ 0 ∷ []) ∷
    update F (0 ∷ 204 ∷ []) 7 65 0x58 "" 153 (67 ∷ 224 ∷ []) ∷ update F (0 ∷ 204 ∷ []) 7 65 0x4E "170000000.5" 142 (207 ∷ 95 ∷ []) ∷
    update F (0 ∷ 204 ∷ []) 7 66 0x4E "" 153 (110 ∷ 53 ∷ []) ∷ update F (0 ∷ 204 ∷ []) 7 66 0x4F "" 153 (197 ∷ 150 ∷ []) ∷
    update P (0 ∷ 204 ∷ []) 7 66 0x53 "" 153 (215 ∷ 43 ∷ []) ∷ update F (0 ∷ 204 ∷ []) 7 66 0x41 "" 153 (161 ∷ 34 ∷ []) ∷ []

-- M-104, the table of refusals: what is answered to each, and its length; what is passed over has its number alone
abbrev pub future_answers : List (List ℕ)
future_answers =
    (0 ∷ 7 ∷ 1 ∷ 0 ∷ 204 ∷ []) ∷ (0 ∷ 7 ∷ 1 ∷ 0 ∷ 204 ∷ []) ∷ (0 ∷ 7 ∷ 2 ∷ 0 ∷ 404 ∷ []) ∷ (8 ∷ 193 ∷ []) ∷ (11 ∷ 5 ∷ 204 ∷ []) ∷ (11 ∷ 6 ∷ 204 ∷ []) ∷
    (13 ∷ 204 ∷ []) ∷ (0 ∷ 7 ∷ 204 ∷ []) ∷ (0 ∷ 7 ∷ 204 ∷ []) ∷ (0 ∷ 7 ∷ 204 ∷ []) ∷ []

pub futures_answered : map (λ bytes. answered (given F F bytes)) futures ≡ future_answers
unfolding bit_step byte_step step walk read_as segments_of letter_at count_at offset_at key_from halved_in segment_of lookup read_row named_rows rows_of meaning_of form_of letter_of segment_letter_of second_of length_of number_of data_of sum_sent end_byte form_in sum_in right_sum framed coded trailed summed head_of message_key key_place acts_as contents_by message_of
futures_answered = refl

-- M-101, M-104: zero for the sum in a batch of F: C, E, O and Z are good; FP has its sum, as every other code that is passed over
abbrev pub future_zeros : List ℕ
future_zeros =
    9 ∷ 9 ∷ 0 ∷ 9 ∷ 0 ∷ 9 ∷ 9 ∷ 10 ∷ 9 ∷ 9 ∷ 9 ∷ 9 ∷ 9 ∷ 8 ∷ 0 ∷ 9 ∷ 9 ∷ 9 ∷ 9 ∷ 9 ∷ 9 ∷ 9 ∷ 9 ∷ 9 ∷ 9 ∷ 0 ∷ []

-- M-104: and of the P codes: PC and PO are good, PN has no such length, and every other is none that 002 prints
abbrev pub pre_open_zeros : List ℕ
pre_open_zeros =
    6 ∷ 6 ∷ 0 ∷ 6 ∷ 6 ∷ 6 ∷ 6 ∷ 6 ∷ 6 ∷ 6 ∷ 6 ∷ 6 ∷ 6 ∷ 8 ∷ 0 ∷ 6 ∷ 6 ∷ 6 ∷ 6 ∷ 6 ∷ 6 ∷ 6 ∷ 6 ∷ 6 ∷ 6 ∷ 6 ∷ []

pub future_zeros_answered : map (λ letter. map (λ bytes. get_or (answered (given F F bytes)) 0 0) (zero_summed letter)) (F ∷ P ∷ []) ≡ future_zeros ∷ pre_open_zeros ∷ []
unfolding bit_step byte_step step walk read_as segments_of letter_at count_at offset_at key_from halved_in segment_of lookup read_row named_rows rows_of meaning_of form_of letter_of segment_letter_of second_of length_of number_of data_of sum_sent end_byte form_in sum_in right_sum framed coded trailed summed head_of message_key key_place acts_as contents_by message_of
future_zeros_answered = refl

-- M-104: no P code is admitted where F isn't listed, nor in a batch of D
pub pre_open_refused : map (λ given'. map (λ bytes. get_or (answered (given' bytes)) 0 0) (zero_summed P)) (given D F ∷ given D D ∷ []) ≡ replicate 26 6 ∷ replicate 26 6 ∷ []
unfolding bit_step byte_step step walk read_as segments_of letter_at count_at offset_at key_from halved_in segment_of lookup read_row named_rows rows_of meaning_of form_of letter_of segment_letter_of second_of length_of number_of data_of sum_sent end_byte form_in sum_in right_sum framed coded trailed summed head_of message_key key_place acts_as contents_by message_of
pre_open_refused = refl
