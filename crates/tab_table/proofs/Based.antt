-- What a restart shares, as a record without a value at the beginning of a body.
use Rattle.std.proofs.Common.{◌≡◌, ℕ, ◌+◌, ◌-◌, ◌<◌, ◌≤◌, ◌^◌, List, [], ◌∷◌, ◌++◌, refl, sym, ◌∙◌, ap, length, take, drop, arith, length-append}
use Rattle.std.specs.Prelude.{pos, replicate}
use Rattle.std.specs.Int.{w32, from_be_bytes}
use Rattle.std.specs.List.{slice_range}
use Rattle.std.proofs.Math.Seq.{drop-append_seam}
use Rattle.tab_key.specs.Encoding.{length_at, span_at, record_at, four_bytes, IsAt}
use Rattle.tab_key.specs.Records.{Key}
use Rattle.tab_key.specs.declared.limited_part.TheConstants.{MAX_PART_LEN}
use Rattle.tab_table.specs.Decoding.{key_at}
use Rattle.tab_table.proofs.Headed.{tail_part, length_alike, middle, row_written, family_written, qualifier_written, label_written, numbers_written, head_written, width_of}

no_length : length_at (replicate 25 0) 0 ≡ 0
unfolding length_at
no_length = refl

module _ (whole parts : List ℕ) (a b c d : ℕ) (long : length parts ≡ a + b + c + d) (row_low : a ≤ MAX_PART_LEN) (family_low : b ≤ MAX_PART_LEN) (qualifier_low : c ≤ MAX_PART_LEN) (label_low : d ≤ MAX_PART_LEN)
    (is : whole ≡ ((four_bytes a ++ four_bytes b ++ four_bytes c ++ four_bytes d) ++ replicate 25 0) ++ parts) where
  abbrev zeros : List ℕ
  zeros = replicate 25 0

  row_says : length_at whole 0 ≡ a
  row_says = row_written [] whole zeros parts a b c d is refl (omega (arith, row_low))

  family_says : length_at whole 4 ≡ b
  family_says = family_written [] whole zeros parts a b c d is refl (omega (arith, family_low))

  qualifier_says : length_at whole 8 ≡ c
  qualifier_says = qualifier_written [] whole zeros parts a b c d is refl (omega (arith, qualifier_low))

  label_says : length_at whole 12 ≡ d
  label_says = label_written [] whole zeros parts a b c d is refl (omega (arith, label_low))

  head_long : length ((four_bytes a ++ four_bytes b ++ four_bytes c ++ four_bytes d) ++ zeros) ≡ 41
  head_long = head_written [] whole zeros parts a b c d is refl

  whole_long : length whole ≡ 41 + (a + b + c + d)
  whole_long = omega (arith, ap length is, length-append ((four_bytes a ++ four_bytes b ++ four_bytes c ++ four_bytes d) ++ zeros) parts, head_long, long)

  value_says : length_at whole 16 ≡ 0
  value_says = length_alike whole zeros 16 0 25 (numbers_written [] whole zeros parts a b c d is refl) (omega (arith, whole_long)) (omega arith) 16 0 0 refl refl (omega arith) ∙ no_length

  behind : drop 41 whole ≡ parts
  behind = ap (λ n. drop n whole) (sym head_long) ∙ ap (drop (length ((four_bytes a ++ four_bytes b ++ four_bytes c ++ four_bytes d) ++ zeros))) is ∙ drop-append_seam ((four_bytes a ++ four_bytes b ++ four_bytes c ++ four_bytes d) ++ zeros) parts

  part_there : (p q i j : ℕ) → p ≡ 41 + i → q ≡ 41 + j → slice_range whole p q ≡ slice_range parts i j
  part_there p q i j e f = sym (tail_part whole 41 p q i j e f) ∙ ap (λ xs. slice_range xs i j) behind

  pub based_at : IsAt whole 0
  unfolding span_at
  based_at =
      let s = span_at whole 0 in
      record {
        within = record { row = omega arith; family = omega arith; qualifier = omega arith; label = omega arith; value = omega arith; whole = omega (arith, row_says, family_says, qualifier_says, label_says, value_says, whole_long) };
        short = record {
          row = omega (arith, width_of whole s.start s.row_end (omega (arith, row_says, whole_long)), row_says, row_low);
          family = omega (arith, width_of whole s.row_end s.family_end (omega (arith, row_says, family_says, whole_long)), family_says, family_low);
          qualifier = omega (arith, width_of whole s.family_end s.qualifier_end (omega (arith, row_says, family_says, qualifier_says, whole_long)), qualifier_says, qualifier_low);
          label = omega (arith, width_of whole s.qualifier_end s.label_end (omega (arith, row_says, family_says, qualifier_says, label_says, whole_long)), label_says, label_low);
          value = omega (arith, width_of whole s.label_end s.end (omega (arith, row_says, family_says, qualifier_says, label_says, value_says, whole_long)), value_says);
        };
      }

  pub based_key : key_at whole 0 ≡ record { row = slice_range parts 0 a; family = slice_range parts a (a + b); qualifier = slice_range parts (a + b) (a + b + c); label = slice_range parts (a + b + c) (a + b + c + d); timestamp = pos 0 }
  unfolding span_at
  based_key =
      let s = span_at whole 0 in
      let row = part_there s.start s.row_end 0 a (omega arith) (omega (arith, row_says)) in
      let family = part_there s.row_end s.family_end a (a + b) (omega (arith, row_says)) (omega (arith, row_says, family_says)) in
      let qualifier = part_there s.family_end s.qualifier_end (a + b) (a + b + c) (omega (arith, row_says, family_says)) (omega (arith, row_says, family_says, qualifier_says)) in
      let label = part_there s.qualifier_end s.label_end (a + b + c) (a + b + c + d) (omega (arith, row_says, family_says, qualifier_says)) (omega (arith, row_says, family_says, qualifier_says, label_says)) in
      λ i. record { row = row i; family = family i; qualifier = qualifier i; label = label i; timestamp = pos 0 }

-- a part of the shares, out of what a restart has of them
pub share_of : (shares : List ℕ) (from n i j a b : ℕ) → from + n ≤ length shares → a ≡ from + i → b ≡ from + j → i ≤ j → j ≤ n → slice_range (slice_range shares from (from + n)) i j ≡ slice_range shares a b
share_of shares from n i j a b inside e f up few = sym (middle shares from n a b i j inside e f up few)
