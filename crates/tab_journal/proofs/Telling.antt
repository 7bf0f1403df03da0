-- What was changed in a journal is told by a batch behind it that still stands.
use Rattle.std.proofs.Common.{◌≡◌, ℕ, ◌+◌, ◌-◌, ◌≤◌, List, [], ◌∷◌, ◌++◌, length, take, drop, refl, sym, ap, subst, ◌∙◌, append_assoc, append-nil, take-append-drop, length-append, arith, inl, inr}
use Rattle.std.specs.List.{fold}
use Rattle.std.proofs.lemmas.Bool.{cases_lt}
use Rattle.std.proofs.lemmas.List.{take_at, drop_at, take-append-le, length-take, length-drop}
use Rattle.tab_codec.specs.Parts.{IsU64}
use Rattle.tab_journal.specs.Damage.{StandsAt, read_of, place_behind, DamageIsTold}
use Rattle.tab_journal.specs.declared.seal.Form.{Form}
use Rattle.tab_journal.specs.declared.seal.Form.TheVariants.{Plain, Tagged}
use Rattle.tab_journal.specs.declared.seal.Seal.{Seal}
use Rattle.tab_journal.specs.Journals.{mark, Header, IsHeader, Batch, IsTagOf, IsBatch, AreBatches, IsJournal}
use Rattle.tab_journal.specs.Laws.{last_sum}
use Rattle.tab_journal.specs.Reading.{Journal}
use Rattle.tab_journal.specs.Writing.{around, AreTimely}
use Rattle.tab_journal.proofs.Crashing.{crashes_leave_beginnings}
use Rattle.tab_journal.proofs.Forms.{front_long}
use Rattle.tab_journal.proofs.Timely.{batch_length, both}
use Rattle.tab_journal.proofs.Whole.{whole_batches_are_kept}

-- ---- batches have one text
tag_once : (form : Form) (salt : ℕ) (t u : List ℕ) → IsTagOf form salt t → IsTagOf form salt u → t ≡ u
tag_once Plain salt t u i j = i ∙ sym j
tag_once Tagged salt t u i j = i.0 ∙ sym j.0

batch_once : (seal : Seal) (before : ℕ) (t u : List ℕ) (b : Batch) → IsBatch seal before t b → IsBatch seal before u b → t ≡ u
batch_once seal before t u b x y =
    let i = x.summed in
    let j = y.summed in
    let g : x.t ≡ y.t = tag_once seal.form seal.salt x.t y.t x.tag y.tag in
    let s : i.s ≡ j.s = i.settled.0 ∙ sym j.settled.0 in
    let f : i.f ≡ j.f = i.body.0 ∙ sym j.body.0 in
    let m : i.m ≡ j.m = i.sum.0 ∙ sym j.sum.0 in
    let r : x.r ≡ y.r = i.spelled ∙ (λ k. s k ++ (f k ++ m k)) ∙ sym j.spelled in
    x.whole ∙ (λ k. g k ++ r k) ∙ sym y.whole

batches_once : (seal : Seal) (before : ℕ) (t u : List ℕ) (bs : List Batch) → AreBatches seal before t bs → AreBatches seal before u bs → t ≡ u
batches_once seal before t u [] a b = a ∙ sym b
batches_once seal before t u (x ∷ bs) a b =
    let first = batch_once seal before a.0 b.0 x a.3 b.3 in
    let others = batches_once seal x.sum a.1 b.1 bs a.4 b.4 in
    a.2 ∙ (λ k. first k ++ others k) ∙ sym b.2

-- ---- the first ones, and those behind them
record Split (seal : Seal) (before : ℕ) (text : List ℕ) (xs ys : List Batch) : Type 0 where
  ahead : List ℕ
  back : List ℕ
  parts : text ≡ ahead ++ back
  first : AreBatches seal before ahead xs
  others : AreBatches seal (fold (λ (sum : ℕ) (b : Batch). b.sum) before xs) back ys

split : (seal : Seal) (before : ℕ) (text : List ℕ) (xs ys : List Batch) → AreBatches seal before text (xs ++ ys) → Split seal before text xs ys
split seal before text [] ys are = record { ahead = []; back = text; parts = refl; first = refl; others = are }
split seal before text (x ∷ xs) ys are =
    let r = split seal x.sum are.1 xs ys are.4 in
    record {
      ahead = are.0 ++ r.ahead;
      back = r.back;
      parts = are.2 ∙ ap (λ (z : List ℕ). are.0 ++ z) r.parts ∙ sym (append_assoc are.0 r.ahead r.back);
      first = (are.0, r.ahead, refl, are.3, r.first);
      others = r.others;
    }

-- ---- where the next one stands
place_is : (seal : Seal) (before at : ℕ) (text : List ℕ) (bs : List Batch) → AreBatches seal before text bs → at + length text ≡ place_behind seal.form at bs
place_is seal before at text [] are = omega (arith, ap (λ (z : List ℕ). length z) are)
place_is seal before at text (x ∷ bs) are = both seal before at text x bs are ∙ place_is seal x.sum (at + (around seal.form + length x.body)) are.1 bs are.4

timely_there : (form : Form) (n at : ℕ) (xs ys : List Batch) (b : Batch) → AreTimely form n at (xs ++ b ∷ ys) → b.settled ≤ place_behind form at xs
timely_there form n at [] ys b timely = timely.1
timely_there form n at (x ∷ xs) ys b timely = timely_there form n (at + (around form + length x.body)) xs ys b timely.2

-- ---- the sum before it
abbrev pub EndsWith : List ℕ → ℕ → Type 0
EndsWith bytes n = (a : List ℕ) × (s : List ℕ) × (bytes ≡ a ++ s) × IsU64 s n

pub header_ends : (bytes : List ℕ) (h : Header) → IsHeader bytes h → EndsWith bytes h.sum
header_ends bytes h is =
    let all = append_assoc (mark h.format h.seal.form) (is.g ++ (is.n ++ (is.c ++ is.s))) is.m
    ∙ ap (λ (z : List ℕ). mark h.format h.seal.form ++ z) (append_assoc is.g (is.n ++ (is.c ++ is.s)) is.m ∙ ap (λ (z : List ℕ). is.g ++ z) (append_assoc is.n (is.c ++ is.s) is.m ∙ ap (λ (z : List ℕ). is.n ++ z) (append_assoc is.c is.s is.m))) in
    (mark h.format h.seal.form ++ (is.g ++ (is.n ++ (is.c ++ is.s))), is.m, is.spelled ∙ sym all, is.sum)

pub batch_ends : (seal : Seal) (before : ℕ) (text : List ℕ) (b : Batch) → IsBatch seal before text b → EndsWith text b.sum
batch_ends seal before text b is =
    let x = is.summed in (
      is.t ++ (x.s ++ x.f),
      x.m,
      is.whole ∙ ap (λ (z : List ℕ). is.t ++ z) (x.spelled ∙ sym (append_assoc x.s x.f x.m)) ∙ sym (append_assoc is.t (x.s ++ x.f) x.m),
      x.sum,
    )

batches_end : (seal : Seal) (before : ℕ) (pre text : List ℕ) (bs : List Batch) → EndsWith pre before → AreBatches seal before text bs → EndsWith (pre ++ text) (fold (λ (sum : ℕ) (b : Batch). b.sum) before bs)
batches_end seal before pre text [] e are = (e.0, e.1, ap (λ (z : List ℕ). pre ++ z) are ∙ append-nil pre ∙ e.2, e.3)
batches_end seal before pre text (x ∷ bs) was are =
    let e = batch_ends seal before are.0 x are.3 in
    let next : EndsWith (pre ++ are.0) x.sum = (pre ++ e.0, e.1, ap (λ (z : List ℕ). pre ++ z) e.2 ∙ sym (append_assoc pre e.0 e.1), e.3) in
    let r = batches_end seal x.sum (pre ++ are.0) are.1 bs next are.4 in
    (r.0, r.1, ap (λ (z : List ℕ). pre ++ z) are.2 ∙ sym (append_assoc pre are.0 are.1) ∙ r.2, r.3)

-- ---- a batch that still stands
module _ (bytes c : List ℕ) (header : Header) (xs ys : List Batch) (b : Batch) (j : IsJournal bytes header (xs ++ b ∷ ys)) where
  abbrev p : ℕ
  p = place_behind header.seal.form 48 xs

  abbrev len : ℕ
  len = 8 + (around header.seal.form + length b.body)

  still_stands : take len (drop (p - 8) c) ≡ take len (drop (p - 8) bytes) → StandsAt header.seal p c b
  still_stands still =
      let r = split header.seal header.sum j.1 xs (b ∷ ys) j.4 in
      let t = r.others.0 in
      let o = r.others.1 in
      let e = batches_end header.seal header.sum j.0 r.ahead xs (header_ends j.0 header j.3) r.first in
      let s = e.1 in
      let eight : length s ≡ 8 = ap (λ (z : List ℕ). length z) e.3.0 in
      let pre : length (j.0 ++ r.ahead) ≡ length e.0 + length s = ap (λ (z : List ℕ). length z) e.2 ∙ length-append e.0 s in
      let place : 48 + length r.ahead ≡ p = place_is header.seal header.sum 48 r.ahead xs r.first in
      let here : length e.0 ≡ p - 8 = omega (arith, eight, pre, place, length-append j.0 r.ahead, front_long j.0 header j.3) in
      let long : length t ≡ around header.seal.form + length b.body = batch_length header.seal (last_sum header xs) t b r.others.3 in
      let parts : bytes ≡ e.0 ++ (s ++ (t ++ o)) =
      j.2
      ∙ ap (λ (z : List ℕ). j.0 ++ z) (r.parts ∙ ap (λ (z : List ℕ). r.ahead ++ z) r.others.2)
      ∙ sym (append_assoc j.0 r.ahead (t ++ o))
      ∙ ap (λ (z : List ℕ). z ++ (t ++ o)) e.2
      ∙ append_assoc e.0 s (t ++ o) in
      let there : drop (p - 8) bytes ≡ (s ++ t) ++ o = ap (λ (z : List ℕ). drop (p - 8) z) parts ∙ drop_at e.0 (s ++ (t ++ o)) (p - 8) here ∙ sym (append_assoc s t o) in
      let put : take len (drop (p - 8) c) ≡ s ++ t = still ∙ ap (λ (z : List ℕ). take len z) there ∙ take_at (s ++ t) o len (omega (arith, eight, long, length-append s t)) in
      let enough : length (take len (drop (p - 8) c)) ≡ length s + length t = ap (λ (z : List ℕ). length z) put ∙ length-append s t in
      record {
        ahead = take (p - 8) c;
        sum = s;
        text = t;
        behind = drop len (drop (p - 8) c);
        before = last_sum header xs;
        spelled = sym (take-append-drop (p - 8) c)
            ∙ ap (λ (z : List ℕ). take (p - 8) c ++ z) (sym (take-append-drop len (drop (p - 8) c)) ∙ ap (λ (z : List ℕ). z ++ drop len (drop (p - 8) c)) put ∙ append_assoc s t (drop len (drop (p - 8) c)));
        place = omega (arith, eight, long, enough, place, length-take len (drop (p - 8) c), length-drop (p - 8) c, length-take (p - 8) c);
        summed = e.3;
        whole = r.others.3;
      }

-- ---- what is read is what was put
read_is_put : (bytes c kept left : List ℕ) (header : Header) (xs ys : List Batch) (n : ℕ) → IsJournal bytes header (xs ++ ys) → c ≡ kept ++ left → IsJournal kept header xs → take 48 c ≡ take 48 bytes → n ≤ length kept → take n c ≡ take n bytes
read_is_put bytes c kept left header xs ys n j parts k same le =
    let r = split header.seal header.sum j.1 xs ys j.4 in
    let c_is : c ≡ k.0 ++ (k.1 ++ left) = parts ∙ ap (λ (z : List ℕ). z ++ left) k.2 ∙ append_assoc k.0 k.1 left in
    let first : k.0 ≡ j.0 =
    sym (take_at k.0 (k.1 ++ left) 48 (front_long k.0 header k.3)) ∙ ap (λ (z : List ℕ). take 48 z) (sym c_is) ∙ same ∙ ap (λ (z : List ℕ). take 48 z) j.2 ∙ take_at j.0 j.1 48 (front_long j.0 header j.3) in
    let others : k.1 ≡ r.ahead = batches_once header.seal header.sum k.1 r.ahead xs k.4 r.first in
    let kept_is : kept ≡ j.0 ++ r.ahead = k.2 ∙ (λ i. first i ++ others i) in
    let bytes_are : bytes ≡ kept ++ r.back = j.2 ∙ ap (λ (z : List ℕ). j.0 ++ z) r.parts ∙ sym (append_assoc j.0 r.ahead r.back) ∙ ap (λ (z : List ℕ). z ++ r.back) (sym kept_is) in
    ap (λ (z : List ℕ). take n z) parts ∙ take-append-le n kept left le ∙ sym (take-append-le n kept r.back le) ∙ sym (ap (λ (z : List ℕ). take n z) bytes_are)

pub damage_is_told : DamageIsTold
damage_is_told bytes c seal sum n k header xs ys b fits w has none still changed =
    let bs = xs ++ b ∷ ys in
    let j = w.journal in
    let beginning : take 48 bytes ≡ j.0 ++ [] = ap (λ (z : List ℕ). take 48 z) j.2 ∙ take_at j.0 j.1 48 (front_long j.0 header j.3) ∙ sym (append-nil j.0) in
    let r = crashes_leave_beginnings bytes c header bs 48 0 fits (j.0, [], beginning, j.3, refl) has none in
    let read : Journal = record { header = header; batches = take r.0 bs; left = r.1 } in
    let kept = whole_batches_are_kept c read fits r.3 in
    let stands = still_stands bytes c header xs ys b j still in
    let long : length c ≡ length kept.kept + length r.1 = ap (λ (z : List ℕ). length z) kept.parts ∙ length-append kept.kept r.1 in
    let place = timely_there header.seal.form n 48 xs ys b w.timely in
    elim (cases_lt (read_of c read) b.settled) [
      | inl less ↦ (read, r.3, refl, (place_behind header.seal.form 48 xs, (b, stands, less, place)))
      | inr le ↦
          let whole : IsJournal bytes header (take r.0 bs ++ drop r.0 bs) = subst (λ (z : List Batch). IsJournal bytes header z) (sym (take-append-drop r.0 bs)) j in
          absurd (changed (read_is_put bytes c kept.kept r.1 header (take r.0 bs) (drop r.0 bs) b.settled whole kept.parts kept.journal has.1 (omega (arith, le, long))))
    ]
