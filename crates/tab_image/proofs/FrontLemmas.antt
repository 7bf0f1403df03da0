-- A record that lies whole in the bytes that are here.
use Rattle.std.proofs.Common.{◌≡◌, ℕ, ℤ, ◌-◌, ◌≤◌, List, ◌++◌, length, take, refl, ap, ◌∙◌, arith, length-append, Option, Some, None}
use Rattle.std.proofs.Math.Seq.{take-append_seam}
use Rattle.std.specs.Io.KnownBytes.{Consumes}
use Rattle.tab_key.specs.Records.{Record}
use Rattle.tab_key.specs.declared.key.Kind.{Kind}
use Rattle.tab_io.specs.declared.reading.Input.{Ghosts}
use Rattle.tab_codec.specs.Parts.{IsBytes}
use Rattle.tab_codec.specs.Reading.{u32_at, u64_at, i64_at, kind_at}
use Rattle.tab_image.specs.Laying.{Begins}
use Rattle.tab_image.specs.Reading.{◌>>=◌, made, part_at, record_at}
use Rattle.tab_image.specs.Streams.{Leaves, HasRead}
use Rattle.tab_image.proofs.ImageCode.{coded_record}
use Rattle.tab_image.proofs.RecordLemmas.{record_of}

-- its parts, one behind another
pub parts_whole : (b0 b1 b2 b3 b4 b5 b6 b7 b8 b9 : List ℕ) (ro f q l : List ℕ) (t : ℤ) (k : Kind) (s i : ℕ) (v : List ℕ)
    → part_at b0 ≡ Some (ro, b1) → part_at b1 ≡ Some (f, b2) → part_at b2 ≡ Some (q, b3) → part_at b3 ≡ Some (l, b4) → i64_at b4 ≡ Some (t, b5) → kind_at b5 ≡ Some (k, b6) → u64_at b6 ≡ Some (s, b7) → u32_at b7 ≡ Some (i, b8) → part_at b8 ≡ Some (v, b9)
    → record_at b0 ≡ Some (record_of ro f q l t k s i v, b9)
unfolding record_at ◌>>=◌ made
parts_whole b0 b1 b2 b3 b4 b5 b6 b7 b8 b9 ro f q l t k s i v p0 p1 p2 p3 p4 p5 p6 p7 p8 =
    rw p0 (rw p1 (rw p2 (rw p3 (rw p4 (rw p5 (rw p6 (rw p7 (rw p8 refl))))))))

-- what is read at the front is read there whatever follows it
pub begins : (bytes rest : List ℕ) (r : Record) → IsBytes bytes → record_at bytes ≡ Some (r, rest) → Begins bytes r rest
begins bytes rest r fits is =
    let t = coded_record.sound bytes r rest fits is in
    record { text = t.front; whole = t.parts; read = λ more. coded_record.complete t.front more r t.says }

module _ (front rest : List ℕ) (r : Record) (b : Begins front r rest) where
  pub rest_shorter : length rest ≤ length front
  rest_shorter = omega (arith, ap (λ (z : List ℕ). length z) b.whole, length-append b.text rest)

  text_is : take (length front - length rest) front ≡ b.text
  text_is =
      let count : length front - length rest ≡ length b.text = omega (arith, ap (λ (z : List ℕ). length z) b.whole, length-append b.text rest) in
      ap (λ (n : ℕ). take n front) count ∙ ap (λ (z : List ℕ). take (length b.text) z) b.whole ∙ take-append_seam b.text rest

  leaves : (known after : Option (List ℕ)) → Consumes known after (take (length front - length rest) front) → Leaves known after record_at r
  leaves None after c = tt
  leaves (Some bytes) None c = absurd c
  leaves (Some bytes) (Some left) c = (left, ap record_at (c ∙ ap (λ (z : List ℕ). z ++ left) text_is) ∙ b.read left, refl)

  -- taken from the front
  pub front_read : {R : Type 0} (g : Ghosts R) (old new : R) → Consumes (g.remaining old) (g.remaining new) (take (length front - length rest) front) → g.faults new ≡ g.faults old → HasRead g old new record_at r
  front_read g old new c same = record { bytes = leaves (g.remaining old) (g.remaining new) c; faults = same }
