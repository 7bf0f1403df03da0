-- Updates are exactly what is read of their words.
use Rattle.std.proofs.Common.{ℕ, ◌≡◌, true, false, cond, List, [], ◌∷◌, ◌++◌, refl, sym, ap, ◌∙◌, subst, append-nil, Some, None, Option}
use Rattle.std.specs.Prelude.{ℤ, codes}
use Rattle.std.specs.Option.{option_map}
use Rattle.std.specs.Str.{bytes_eq}
use Rattle.std.proofs.lemmas.Slice.Eq.{bytes_eq-Decides}
use Rattle.tab_key.specs.declared.key.Kind.TheVariants.{Delete, Put}
use Rattle.tab_mutation.specs.Mutations.{Update}
use Rattle.tab_lines.specs.declared.updates.TimestampForm.{TimestampForm}
use Rattle.tab_lines.specs.declared.updates.TimestampForm.TheVariants.{Optional, Dashed}
use Rattle.tab_lines.specs.Gives.{field}
use Rattle.tab_text.specs.Words.{IsWord}
use Rattle.tab_text.specs.Reading.{bytes_of}
use Rattle.tab_lines.specs.Fields.{signed_of, given_timestamp, timestamp_or_dash}
use Rattle.tab_lines.specs.Updates.{timestamp_of, put_of, delete_of, update_of, updates_behind, updates_from, updates_of}
use Rattle.tab_lines.specs.Forms.{IsLastTimestamp, IsUpdate, AreUpdates}
use Rattle.tab_lines.specs.Forms.IsUpdate.{put, del}
use Rattle.tab_lines.proofs.UpdateLemmas.{more_updates, from_update, from_none}
use Rattle.tab_lines.proofs.WordLaw.{words_read}
use Rattle.tab_lines.proofs.NumberLaw.{numbers_read, timestamps_read}
use Rattle.tab_lines.proofs.Inverting.{Words, some_inj, bind_some, field_some, on_bind, on_map, on_field, on_read}

abbrev pub put_with : List ℕ → List ℕ → List ℕ → List ℕ → Option ℤ → Update
put_with family qualifier label value t = record { kind = Put; family = family; qualifier = qualifier; label = label; timestamp = t; value = value }

abbrev pub delete_with : List ℕ → List ℕ → List ℕ → Option ℤ → Update
delete_with family qualifier label t = record { kind = Delete; family = family; qualifier = qualifier; label = label; timestamp = t; value = [] }

-- the words of a put
pub on_put : (form : TimestampForm) (words : Words) (u : Update) (rest : Words) (P : Words → Update → Type 0) → put_of form words ≡ Some (u, rest)
    → ((f q l v : List ℕ) (more : Words) (family qualifier label value : List ℕ) (t : Option ℤ) → IsWord f family → IsWord q qualifier → IsWord l label → IsWord v value
    → timestamp_of form more ≡ Some (t, rest) → P (f ∷ q ∷ l ∷ v ∷ more) (put_with family qualifier label value t))
    → P words u
unfolding put_of
on_put form words u rest P is then =
    on_field bytes_of words _ (u, rest) (λ ws. P ws u) is (λ f ws1 family e1 is1.
    on_field bytes_of ws1 _ (u, rest) (λ ws. P (f ∷ ws) u) is1 (λ q ws2 qualifier e2 is2.
    on_field bytes_of ws2 _ (u, rest) (λ ws. P (f ∷ q ∷ ws) u) is2 (λ l ws3 label e3 is3.
    on_field bytes_of ws3 _ (u, rest) (λ ws. P (f ∷ q ∷ l ∷ ws) u) is3 (λ v ws4 value e4 is4.
    on_bind (timestamp_of form ws4) _ (u, rest) (P (f ∷ q ∷ l ∷ v ∷ ws4) u) is4 (λ t e5 is5.
    let e : ◌≡◌ {A = Update × Words} (put_with family qualifier label value t.0, t.1) (u, rest) = some_inj (put_with family qualifier label value t.0, t.1) (u, rest) is5 in
    let left : t.1 ≡ rest = ap (λ (p : Update × Words). p.1) e in
    subst (λ (y : Update). P (f ∷ q ∷ l ∷ v ∷ ws4) y) (ap (λ (p : Update × Words). p.0) e)
    (then f q l v ws4 family qualifier label value t.0 (words_read.sound f family e1) (words_read.sound q qualifier e2) (words_read.sound l label e3) (words_read.sound v value e4)
    (e5 ∙ ap (λ (r : Words). Some (t.0, r)) left)))))))

pub put_complete : (form : TimestampForm) (f q l v : List ℕ) (more : Words) (family qualifier label value : List ℕ) (t : Option ℤ) (rest : Words)
    → IsWord f family → IsWord q qualifier → IsWord l label → IsWord v value → timestamp_of form more ≡ Some (t, rest)
    → put_of form (f ∷ q ∷ l ∷ v ∷ more) ≡ Some (put_with family qualifier label value t, rest)
unfolding put_of
put_complete form f q l v more family qualifier label value t rest w1 w2 w3 w4 e5 =
    bind_some (field bytes_of (f ∷ q ∷ l ∷ v ∷ more)) (family, q ∷ l ∷ v ∷ more) _ _ (field_some bytes_of f (q ∷ l ∷ v ∷ more) family (words_read.complete f family w1))
    (bind_some (field bytes_of (q ∷ l ∷ v ∷ more)) (qualifier, l ∷ v ∷ more) _ _ (field_some bytes_of q (l ∷ v ∷ more) qualifier (words_read.complete q qualifier w2))
    (bind_some (field bytes_of (l ∷ v ∷ more)) (label, v ∷ more) _ _ (field_some bytes_of l (v ∷ more) label (words_read.complete l label w3))
    (bind_some (field bytes_of (v ∷ more)) (value, more) _ _ (field_some bytes_of v more value (words_read.complete v value w4))
    (bind_some (timestamp_of form more) (t, rest) _ _ e5 refl))))

-- the words of a delete marker
pub on_delete : (form : TimestampForm) (words : Words) (u : Update) (rest : Words) (P : Words → Update → Type 0) → delete_of form words ≡ Some (u, rest)
    → ((f q l : List ℕ) (more : Words) (family qualifier label : List ℕ) (t : Option ℤ) → IsWord f family → IsWord q qualifier → IsWord l label
    → timestamp_of form more ≡ Some (t, rest) → P (f ∷ q ∷ l ∷ more) (delete_with family qualifier label t))
    → P words u
unfolding delete_of
on_delete form words u rest P is then =
    on_field bytes_of words _ (u, rest) (λ ws. P ws u) is (λ f ws1 family e1 is1.
    on_field bytes_of ws1 _ (u, rest) (λ ws. P (f ∷ ws) u) is1 (λ q ws2 qualifier e2 is2.
    on_field bytes_of ws2 _ (u, rest) (λ ws. P (f ∷ q ∷ ws) u) is2 (λ l ws3 label e3 is3.
    on_bind (timestamp_of form ws3) _ (u, rest) (P (f ∷ q ∷ l ∷ ws3) u) is3 (λ t e5 is5.
    let e : ◌≡◌ {A = Update × Words} (delete_with family qualifier label t.0, t.1) (u, rest) = some_inj (delete_with family qualifier label t.0, t.1) (u, rest) is5 in
    let left : t.1 ≡ rest = ap (λ (p : Update × Words). p.1) e in
    subst (λ (y : Update). P (f ∷ q ∷ l ∷ ws3) y) (ap (λ (p : Update × Words). p.0) e)
    (then f q l ws3 family qualifier label t.0 (words_read.sound f family e1) (words_read.sound q qualifier e2) (words_read.sound l label e3)
    (e5 ∙ ap (λ (r : Words). Some (t.0, r)) left))))))

pub delete_complete : (form : TimestampForm) (f q l : List ℕ) (more : Words) (family qualifier label : List ℕ) (t : Option ℤ) (rest : Words)
    → IsWord f family → IsWord q qualifier → IsWord l label → timestamp_of form more ≡ Some (t, rest)
    → delete_of form (f ∷ q ∷ l ∷ more) ≡ Some (delete_with family qualifier label t, rest)
unfolding delete_of
delete_complete form f q l more family qualifier label t rest w1 w2 w3 e5 =
    bind_some (field bytes_of (f ∷ q ∷ l ∷ more)) (family, q ∷ l ∷ more) _ _ (field_some bytes_of f (q ∷ l ∷ more) family (words_read.complete f family w1))
    (bind_some (field bytes_of (q ∷ l ∷ more)) (qualifier, l ∷ more) _ _ (field_some bytes_of q (l ∷ more) qualifier (words_read.complete q qualifier w2))
    (bind_some (field bytes_of (l ∷ more)) (label, more) _ _ (field_some bytes_of l more label (words_read.complete l label w3))
    (bind_some (timestamp_of form more) (t, rest) _ _ e5 refl)))

-- ---- timestamps

last_sound : (words : Words) (t : Option ℤ) → timestamp_of Optional words ≡ Some (t, []) → IsLastTimestamp words t
last_sound [] t is = subst (λ (o : Option ℤ). IsLastTimestamp [] o) (ap (λ (p : Option ℤ × Words). p.0) (some_inj (None, []) (t, []) is)) refl
last_sound (word ∷ words) t is = on_read given_timestamp (word ∷ words) t [] (λ ws. IsLastTimestamp ws t) is (λ w read.
    on_map (λ z. Some z) (signed_of w) t (IsLastTimestamp (w ∷ []) t) read (λ z number e. subst (λ (o : Option ℤ). IsLastTimestamp (w ∷ []) o) e (w, refl, numbers_read.sound w z number)))

pub last_timestamp : (words rest : Words) (t : Option ℤ) → timestamp_of Optional words ≡ Some (t, rest) → rest ≡ [] → IsLastTimestamp words t
last_timestamp words rest t is end = last_sound words t (is ∙ ap (λ (r : Words). Some (t, r)) end)

pub last_complete : (words : Words) (t : Option ℤ) → IsLastTimestamp words t → timestamp_of Optional words ≡ Some (t, [])
last_complete words None is = ap (λ (ws : Words). timestamp_of Optional ws) is
last_complete words (Some z) (word, e, is) =
    ap (λ (ws : Words). timestamp_of Optional ws) e
    ∙ field_some given_timestamp word [] (Some z) (ap (λ (o : Option ℤ). option_map (λ x. Some x) o) (numbers_read.complete word z is))

-- ---- one update

-- the words of one update among several
on_update : (words : Words) (u : Update) (rest : Words) (P : Words → Type 0) → update_of words ≡ Some (u, rest) → ((first : Words) → IsUpdate first u → P (first ++ rest)) → P words
on_update [] u rest P is then = absurd cc
on_update (verb ∷ words) u rest P is then =
    elim (bytes_eq verb (codes "put")) as (λ b. bytes_eq verb (codes "put") ≡ b → cond b (put_of Dashed words) (cond (bytes_eq verb (codes "del")) (delete_of Dashed words) None) ≡ Some (u, rest) → P (verb ∷ words)) [
      | true ↦ λ yes e.
          subst (λ (w : List ℕ). P (w ∷ words)) (sym ((bytes_eq-Decides verb (codes "put")).0 yes))
          (on_put Dashed words u rest (λ ws u'. ((first : Words) → IsUpdate first u' → P (first ++ rest)) → P (codes "put" ∷ ws)) e (λ f q l v more family qualifier label value t w1 w2 w3 w4 e5.
          on_read timestamp_or_dash more t rest (λ ws. ((first : Words) → IsUpdate first (put_with family qualifier label value t) → P (first ++ rest)) → P (codes "put" ∷ f ∷ q ∷ l ∷ v ∷ ws)) e5 (λ w read then'.
          then' (codes "put" ∷ f ∷ q ∷ l ∷ v ∷ w ∷ []) (put f q l v w family qualifier label value t w1 w2 w3 w4 (timestamps_read.sound w t read)))) then)
      | false ↦ λ no e. elim (bytes_eq verb (codes "del")) as (λ b. bytes_eq verb (codes "del") ≡ b → cond b (delete_of Dashed words) None ≡ Some (u, rest) → P (verb ∷ words)) [
        | true ↦ λ yes e2.
            subst (λ (w : List ℕ). P (w ∷ words)) (sym ((bytes_eq-Decides verb (codes "del")).0 yes))
            (on_delete Dashed words u rest (λ ws u'. ((first : Words) → IsUpdate first u' → P (first ++ rest)) → P (codes "del" ∷ ws)) e2 (λ f q l more family qualifier label t w1 w2 w3 e5.
            on_read timestamp_or_dash more t rest (λ ws. ((first : Words) → IsUpdate first (delete_with family qualifier label t) → P (first ++ rest)) → P (codes "del" ∷ f ∷ q ∷ l ∷ ws)) e5 (λ w read then'.
            then' (codes "del" ∷ f ∷ q ∷ l ∷ w ∷ []) (del f q l w family qualifier label t w1 w2 w3 (timestamps_read.sound w t read)))) then)
        | false ↦ λ no2 e2. absurd cc
      ] refl e
    ] refl is

update_complete : (first : Words) (u : Update) (rest : Words) → IsUpdate first u → update_of (first ++ rest) ≡ Some (u, rest)
update_complete first u rest (put f q l v w family qualifier label value t w1 w2 w3 w4 time) =
    put_complete Dashed f q l v (w ∷ rest) family qualifier label value t rest w1 w2 w3 w4 (field_some timestamp_or_dash w rest t (timestamps_read.complete w t time))
update_complete first u rest (del f q l w family qualifier label t w1 w2 w3 time) =
    delete_complete Dashed f q l (w ∷ rest) family qualifier label t rest w1 w2 w3 (field_some timestamp_or_dash w rest t (timestamps_read.complete w t time))

-- ---- several

-- the first of several updates, and what is read behind it
pub record BeginsWith (words : Words) (u : Update) (us : List Update) : Type 0 where
  pub first : Words
  pub rest : Words
  pub split : words ≡ first ++ rest
  pub update : IsUpdate first u
  pub behind : updates_behind updates_from rest ≡ Some us

split_first : (words : Words) (all : List Update) → updates_from words ≡ Some all → (u : Update) × (us : List Update) × (u ∷ us ≡ all) × BeginsWith words u us
split_first words all is =
    elim (update_of words) as (λ r. update_of words ≡ r → (u : Update) × (us : List Update) × (u ∷ us ≡ all) × BeginsWith words u us) [
      | None ↦ λ read. let no : None ≡ Some all = sym (from_none words read) ∙ is in absurd cc
      | Some x ↦ λ read.
          on_map (λ us. x.0 ∷ us) (updates_behind updates_from x.1) all ((u : Update) × (us : List Update) × (u ∷ us ≡ all) × BeginsWith words u us) (sym (from_update words x.1 x.0 read) ∙ is) (λ us behind e.
          on_update words x.0 x.1 (λ ws. words ≡ ws → (u : Update) × (us : List Update) × (u ∷ us ≡ all) × BeginsWith words u us) read (λ first update split.
          (x.0, us, e, record { first = first; rest = x.1; split = split; update = update; behind = behind })) refl)
    ] refl

-- no update is behind the last one
behind_none : (rest : Words) → updates_behind updates_from rest ≡ Some [] → rest ≡ []
behind_none [] is = refl
behind_none (word ∷ words) is =
    elim (bytes_eq word (codes ";")) as (λ b. cond b (updates_from words) None ≡ Some [] → word ∷ words ≡ []) [
      | true ↦ λ e. let h = split_first words [] e in let no : h.0 ∷ h.1 ≡ [] = h.2 in absurd cc
      | false ↦ λ e. absurd cc
    ] is

-- more updates stand behind a semicolon
behind_some : (rest : Words) (u : Update) (us : List Update) → updates_behind updates_from rest ≡ Some (u ∷ us) → (others : Words) × (rest ≡ codes ";" ∷ others) × (updates_from others ≡ Some (u ∷ us))
behind_some [] u us is = absurd cc
behind_some (word ∷ words) u us is =
    elim (bytes_eq word (codes ";")) as (λ b. bytes_eq word (codes ";") ≡ b → cond b (updates_from words) None ≡ Some (u ∷ us) → (others : Words) × (word ∷ words ≡ codes ";" ∷ others) × (updates_from others ≡ Some (u ∷ us))) [
      | true ↦ λ yes e. (words, ap (λ (w : List ℕ). w ∷ words) ((bytes_eq-Decides word (codes ";")).0 yes), e)
      | false ↦ λ no e. absurd cc
    ] refl is

from_sound : (us : List Update) (words : Words) → updates_from words ≡ Some us → AreUpdates words us
from_sound [] words is = let h = split_first words [] is in let no : h.0 ∷ h.1 ≡ [] = h.2 in absurd cc
from_sound (u ∷ []) words is =
    let h = split_first words (u ∷ []) is in
    let b : BeginsWith words h.0 h.1 = h.3 in
    let same : h.0 ≡ u = head_of h.0 h.1 u [] h.2 in
    let none : h.1 ≡ [] = tail_of h.0 h.1 u [] h.2 in
    let end : b.rest ≡ [] = behind_none b.rest (b.behind ∙ ap (λ (us : List Update). Some us) none) in
    let whole : words ≡ b.first = b.split ∙ ap (λ (r : Words). b.first ++ r) end ∙ append-nil b.first in
    subst (λ (ws : Words). IsUpdate ws u) (sym whole) (subst (λ (x : Update). IsUpdate b.first x) same b.update)
  where
    head_of : (x : Update) (xs : List Update) (y : Update) (ys : List Update) → x ∷ xs ≡ y ∷ ys → x ≡ y
    head_of x xs y ys e = cc

    tail_of : (x : Update) (xs : List Update) (y : Update) (ys : List Update) → x ∷ xs ≡ y ∷ ys → xs ≡ ys
    tail_of x xs y ys e = cc
from_sound (u ∷ v ∷ vs) words is =
    let h = split_first words (u ∷ v ∷ vs) is in
    let b : BeginsWith words h.0 h.1 = h.3 in
    let same : h.0 ≡ u = head_of h.0 h.1 u (v ∷ vs) h.2 in
    let more : h.1 ≡ v ∷ vs = tail_of h.0 h.1 u (v ∷ vs) h.2 in
    let n = behind_some b.rest v vs (b.behind ∙ ap (λ (us : List Update). Some us) more) in
    (b.first, n.0, b.split ∙ ap (λ (r : Words). b.first ++ r) n.1, subst (λ (x : Update). IsUpdate b.first x) same b.update, from_sound (v ∷ vs) n.0 n.2)
  where
    head_of : (x : Update) (xs : List Update) (y : Update) (ys : List Update) → x ∷ xs ≡ y ∷ ys → x ≡ y
    head_of x xs y ys e = cc

    tail_of : (x : Update) (xs : List Update) (y : Update) (ys : List Update) → x ∷ xs ≡ y ∷ ys → xs ≡ ys
    tail_of x xs y ys e = cc

from_complete : (us : List Update) (u : Update) (words : Words) → AreUpdates words (u ∷ us) → updates_from words ≡ Some (u ∷ us)
from_complete [] u words is =
    let all : words ++ [] ≡ words = append-nil words in
    let read : update_of words ≡ Some (u, []) = subst (λ (ws : Words). update_of ws ≡ Some (u, [])) all (update_complete words u [] is) in
    from_update words [] u read
from_complete (v ∷ vs) u words (first, others, e, update, more) =
    ap (λ (ws : Words). updates_from ws) e
    ∙ from_update (first ++ codes ";" ∷ others) (codes ";" ∷ others) u (update_complete first u (codes ";" ∷ others) update)
    ∙ ap (λ (o : Option (List Update)). more_updates u o) (from_complete vs v others more)

pub updates_sound : (words : Words) (us : List Update) → updates_of words ≡ Some us → AreUpdates words us
updates_sound [] us is = subst (λ (all : List Update). AreUpdates [] all) (some_inj [] us is) refl
updates_sound (word ∷ words) us is = from_sound us (word ∷ words) is

pub updates_complete : (words : Words) (us : List Update) → AreUpdates words us → updates_of words ≡ Some us
updates_complete words [] is = ap (λ (ws : Words). updates_of ws) is
updates_complete [] (u ∷ us) is = let no : None ≡ Some (u ∷ us) = sym (from_none [] refl) ∙ from_complete us u [] is in absurd cc
updates_complete (word ∷ words) (u ∷ us) is = from_complete us u (word ∷ words) is
