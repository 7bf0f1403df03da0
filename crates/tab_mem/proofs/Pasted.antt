-- Bytes that are copied to an earlier place in their body.
use Rattle.std.proofs.Common.{◌≡◌, ℕ, ◌+◌, ◌-◌, ◌≤◌, List, ◌++◌, refl, sym, ◌∙◌, ap, length, take, drop, arith, length-append}
use Rattle.std.specs.List.{slice_range, copy_within}
use Rattle.std.proofs.Math.Seq.{drop-append-add}
use Rattle.std.proofs.lemmas.List.{length-take-le, length-drop, take_at, take-take, take-append-le, drop-drop}
use Rattle.std.proofs.lemmas.Slice.{drop-append-drop, take-put_mid, put_mid-paste}
use Rattle.std.proofs.lemmas.List.Edits.{length-paste}
use borrow.Rule.Slice.PartMut.{put_mid}

module _ (old : List ℕ) (place end to : ℕ) (order : place ≤ end) (inside : end ≤ length old) (earlier : to ≤ place) where
  piece_long : length (slice_range old place end) ≡ end - place
  piece_long = length-take-le (end - place) (drop place old) (omega (arith, inside, order, length-drop place old))

  front_long : length (take to old ++ slice_range old place end) ≡ to + (end - place)
  front_long = omega (arith, length-append (take to old) (slice_range old place end), length-take-le to old (omega (arith, earlier, order, inside)), piece_long)

  pub within_moved : take (to + (end - place)) (copy_within old place end to) ≡ take to old ++ slice_range old place end
  within_moved = take_at (take to old ++ slice_range old place end) (drop (to + (end - place)) old) (to + (end - place)) front_long

  pub within_behind : drop end (copy_within old place end to) ≡ drop end old
  within_behind = drop-append-drop (to + (end - place)) old (take to old ++ slice_range old place end) end (omega (arith, earlier, order)) front_long

  -- .. where the two places don't overlap: what lies before the piece is written to
  module _ (k : ℕ) (ys : List ℕ) (size : k ≡ end - place) (apart : to + (end - place) ≤ place) (is : ys ≡ slice_range old place end) where
    before_long : length (take place old) ≡ place
    before_long = length-take-le place old (omega (arith, order, inside))

    ys_long : length ys ≡ end - place
    ys_long = ap length is ∙ piece_long

    put_long : length (put_mid to k (take place old) ys) ≡ place
    put_long =
        ap length (put_mid-paste to k (take place old) ys ys k refl refl (size ∙ sym ys_long))
        ∙ length-paste (take place old) to ys k (omega (arith, size, apart, before_long)) (omega (arith, size, ys_long))
        ∙ before_long

    pub apart_moved : take (to + (end - place)) (put_mid to k (take place old) ys ++ drop place old) ≡ take to old ++ slice_range old place end
    apart_moved =
        take-append-le (to + (end - place)) (put_mid to k (take place old) ys) (drop place old) (omega (arith, put_long, apart))
        ∙ take-put_mid to k (take place old) ys (to + (end - place)) (omega (arith, ys_long)) (omega (arith, before_long, earlier))
        ∙ (λ i. take-take to place old earlier i ++ is i)

    pub apart_behind : drop end (put_mid to k (take place old) ys ++ drop place old) ≡ drop end old
    apart_behind =
        let far : end ≡ length (put_mid to k (take place old) ys) + (end - place) = omega (arith, put_long, order) in
        ap (λ n. drop n (put_mid to k (take place old) ys ++ drop place old)) far
        ∙ drop-append-add (put_mid to k (take place old) ys) (drop place old) (end - place)
        ∙ drop-drop (end - place) place old
        ∙ (let there : place + (end - place) ≡ end = omega (arith, order) in ap (λ n. drop n old) there)

    pub apart_long : length (put_mid to k (take place old) ys ++ drop place old) ≡ length old
    apart_long = omega (arith, length-append (put_mid to k (take place old) ys) (drop place old), put_long, length-drop place old, order, inside)
