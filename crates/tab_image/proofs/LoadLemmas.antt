-- A whole image, read from an input.
use Rattle.std.proofs.Common.{◌≡◌, ℕ, ◌<◌, ◌==◌, Bool, true, false, cond, List, [], ◌∷◌, ◌++◌, length, take, drop, refl, sym, ap, subst, ◌∙◌, arith, Option, Some, None}
use Rattle.std.specs.Prelude.{codes, bytes_eq, nat_lt, Result, Ok, Err}
use Rattle.std.specs.Io.KnownBytes.{Keeps}
use Rattle.std.proofs.lemmas.Bool.Decides.{nat_tests}
use Rattle.std.proofs.lemmas.List.{length-take}
use Rattle.std.proofs.lemmas.Slice.Eq.{bytes_eq-Decides}
use Rattle.tab_io.specs.Streams.{IsEnd, BeginsWith}
use Rattle.tab_io.specs.declared.reading.Input.{Ghosts}
use Rattle.tab_codec.specs.Reading as parts
use Rattle.tab_codec.proofs.Exact.{some_inj}
use Rattle.tab_codec.specs.Reading.{Reader, only_if, whole, bytes_at, u16_at}
use Rattle.tab_image.specs.declared.fault.ImageFault.{ImageFault}
use Rattle.tab_image.specs.declared.fault.ImageFault.TheVariants as fault
use Rattle.tab_image.specs.declared.fault.LoadFault.{LoadFault}
use Rattle.tab_image.specs.declared.image.Image.{Image}
use Rattle.tab_image.specs.declared.unread.Unread.{Unread}
use Rattle.tab_image.specs.declared.unread.Unread.TheVariants as unread
use Rattle.tab_image.specs.Conditions.{is_sane}
use Rattle.tab_image.specs.Images.{magic}
use Rattle.tab_image.specs.Reading.{◌>>=◌, made, picked_by, same_as, mark_at, body_at, is_known, if_sane, versioned, image_of}
use Rattle.tab_image.specs.Loading.{magic_at, version_at, end_at, alone_at, sane_at, told, AreRead, HasLoaded, Loads}
use Rattle.tab_image.specs.Streams.{Leaves, Lacks, HasRead, Stops, text_of}
use Rattle.tab_image.specs.Takes.{IsAhead}
use Rattle.tab_image.proofs.Streams.{none_some, later_failed, read_pick, stops_pick, stops_picked}
use Rattle.tab_image.proofs.SaneLaw.{sane_decides}

-- ---- bytes that have to be these
module _ {R : Type 0} (g : Ghosts R) (n : ℕ) (text : List ℕ) where
  same_read : (a b : R) (t : List ℕ) → HasRead g a b (text_of n) t → bytes_eq t text ≡ true → HasRead g a b (picked_by (same_as text) (bytes_at n)) tt
  unfolding text_of
  same_read a b t p is = read_pick g a b (same_as text) (bytes_at n) t tt p (rw is refl)

  same_none : (a b : R) (t : List ℕ) → HasRead g a b (text_of n) t → bytes_eq t text ≡ false → Stops g a b (picked_by (same_as text) (bytes_at n)) unread.Bad
  unfolding text_of
  same_none a b t p is = stops_pick g a b (same_as text) (bytes_at n) t p (rw is refl)

  same_stops : (a b : R) (u : Unread) → Stops g a b (text_of n) u → Stops g a b (picked_by (same_as text) (bytes_at n)) u
  unfolding text_of
  same_stops a b u s = stops_picked g a b (same_as text) (bytes_at n) u s

module _ {R : Type 0} (g : Ghosts R) where
  pub magic_read : (a b : R) (t : List ℕ) → HasRead g a b (text_of 6) t → bytes_eq t (codes "TABIMG") ≡ true → HasRead g a b magic_at tt
  unfolding magic_at
  magic_read a b t p is = same_read g 6 magic a b t p is

  pub magic_none : (a b : R) (t : List ℕ) → HasRead g a b (text_of 6) t → bytes_eq t (codes "TABIMG") ≡ false → Stops g a b magic_at unread.Bad
  unfolding magic_at
  magic_none a b t p is = same_none g 6 magic a b t p is

  pub magic_stops : (a b : R) (u : Unread) → Stops g a b (text_of 6) u → Stops g a b magic_at u
  unfolding magic_at
  magic_stops a b u s = same_stops g 6 magic a b u s

  pub mark_read : (a b : R) (t : List ℕ) → HasRead g a b (text_of 4) t → bytes_eq t (codes "END!") ≡ true → HasRead g a b mark_at tt
  unfolding mark_at
  mark_read a b t p is = same_read g 4 (codes "END!") a b t p is

  pub mark_none : (a b : R) (t : List ℕ) → HasRead g a b (text_of 4) t → bytes_eq t (codes "END!") ≡ false → Stops g a b mark_at unread.Bad
  unfolding mark_at
  mark_none a b t p is = same_none g 4 (codes "END!") a b t p is

  pub mark_stops : (a b : R) (u : Unread) → Stops g a b (text_of 4) u → Stops g a b mark_at u
  unfolding mark_at
  mark_stops a b u s = same_stops g 4 (codes "END!") a b u s

-- ---- the end
end_leaves : (a b : Option (List ℕ)) → IsEnd a b → Leaves a b end_at tt
end_leaves None b h = tt
end_leaves (Some bytes) b h = ([], ap end_at h.0, h.1)

-- known bytes that begin with some aren't at their end
ahead_lacks : (a b : Option (List ℕ)) (front : List ℕ) → Keeps a b → BeginsWith b front → 0 < length front → Lacks a end_at
ahead_lacks None b front k begins some = tt
ahead_lacks (Some bytes) None front k begins some = absurd k
ahead_lacks (Some bytes) (Some now) front k begins some = ap end_at (sym k ∙ begins.1) ∙ go front begins.0 some
  where
    go : (front rest : List ℕ) → 0 < length front → end_at (front ++ rest) ≡ None
    go [] rest some = absurd (omega (arith, some))
    go (x ∷ xs) rest some = refl

module _ {R E : Type 0} (g : Ghosts R) where
  pub end_told : (a b : R) (r : Result Bool E) → IsAhead g a b r → r ≡ Ok false → HasRead g a b end_at tt
  end_told a b (Ok true) h is = let never : true ≡ false = ap (λ (x : Result Bool E). elim x [ Ok t ↦ t | Err e ↦ true ]) is in absurd cc
  end_told a b (Ok false) h is = record { bytes = end_leaves (g.remaining a) (g.remaining b) h.0; faults = h.1 }
  end_told a b (Err e) h is = let never : true ≡ false = ap (λ (x : Result Bool E). elim x [ Ok t ↦ t | Err e ↦ true ]) is in absurd cc

  pub more_told : (a b : R) (r : Result Bool E) → IsAhead g a b r → r ≡ Ok true → Stops g a b end_at unread.Bad
  more_told a b (Ok true) h is = record { why = ahead_lacks (g.remaining a) (g.remaining b) (g.front b) h.0 h.3 h.1 }
  more_told a b (Ok false) h is = let never : false ≡ true = ap (λ (x : Result Bool E). elim x [ Ok t ↦ t | Err e ↦ false ]) is in absurd cc
  more_told a b (Err e) h is = let never : false ≡ true = ap (λ (x : Result Bool E). elim x [ Ok t ↦ t | Err e ↦ false ]) is in absurd cc

-- ---- where the conditions hold
module _ {R : Type 0} (g : Ghosts R) (version : ℕ) where
  pub sane_read : (a b : R) (i : Image) → HasRead g a b (alone_at version) i → is_sane i ≡ true → HasRead g a b (sane_at version) i
  unfolding sane_at
  sane_read a b i p is = read_pick g a b (only_if is_sane) (alone_at version) i i p (rw is refl)

  pub insane_stops : (a b : R) (i : Image) → HasRead g a b (alone_at version) i → is_sane i ≡ false → Stops g a b (sane_at version) unread.Bad
  unfolding sane_at
  insane_stops a b i p is = stops_pick g a b (only_if is_sane) (alone_at version) i p (rw is refl)

  pub sane_stops : (a b : R) (u : Unread) → Stops g a b (alone_at version) u → Stops g a b (sane_at version) u
  unfolding sane_at
  sane_stops a b u s = stops_picked g a b (only_if is_sane) (alone_at version) u s

pub ruleset magics = (magic_read, magic_none, magic_stops)

pub ruleset marks = (mark_read, mark_none, mark_stops)

pub ruleset ends = (end_told, more_told)

pub ruleset sane = (sane_read, insane_stops, sane_stops)

-- ---- the version, and what stands behind it
-- what was read, or that there is no image
abbrev judged : Option (Image × List ℕ) → Result Image ImageFault
judged None = Err fault.Bad
judged (Some x) = Ok x.0

-- the image, where it passed
abbrev passed_of : Bool → Image → Option (Image × List ℕ)
passed_of passed i = parts.◌>>=◌ {A = Image} {B = Image × List ℕ} (cond passed (Some i) None) (λ j. Some (j, []))

sane_is : (version : ℕ) (bytes : List ℕ) → judged (sane_at version bytes) ≡ if_sane (whole (body_at version bytes))
unfolding sane_at alone_at picked_by ◌>>=◌ made
sane_is version bytes = go (body_at version bytes) refl
  where
    go : (o : Option (Image × List ℕ)) → body_at version bytes ≡ o → judged (sane_at version bytes) ≡ if_sane (whole o)
    go None e = rw e refl
    go (Some (i, b ∷ bs)) e = let some : (length (b ∷ bs) == 0) ≡ false = grind (arith, nat_tests) in rw e (rw some refl)
    go (Some (i, [])) e = rw e (elim (is_sane i) as (λ t. judged (passed_of t i) ≡ cond t (Ok i) (Err fault.Bad)) [ true ↦ refl | false ↦ refl ])

-- the number behind six bytes, where these are as they have to be
abbrev number_of : Bool → List ℕ → Option (ℕ × List ℕ)
number_of same rest = parts.◌>>=◌ {A = Unit {0} × List ℕ} {B = ℕ × List ℕ} (parts.◌>>=◌ {A = Unit {0}} {B = Unit {0} × List ℕ} (cond same (Some tt) None) (λ y. Some (y, rest))) (λ x. u16_at x.1)

abbrev behind_six : Option (List ℕ × List ℕ) → Option (ℕ × List ℕ)
behind_six o = parts.◌>>=◌ {A = Unit {0} × List ℕ} {B = ℕ × List ℕ} (parts.◌>>=◌ {A = List ℕ × List ℕ} {B = Unit {0} × List ℕ} o (λ x. parts.◌>>=◌ {A = Unit {0}} {B = Unit {0} × List ℕ} (same_as magic x.0) (λ y. Some (y, x.1)))) (λ x. u16_at x.1)

too_short : (bytes : List ℕ) → nat_lt (length bytes) 6 ≡ true → bytes_eq (take 6 bytes) magic ≡ false
too_short bytes few = isn't (bytes_eq (take 6 bytes) magic) (λ same.
    let six : length (take 6 bytes) ≡ 6 = ap (λ (z : List ℕ). length z) ((bytes_eq-Decides (take 6 bytes) magic).0 same) in
    let lt : length bytes < 6 = grind (arith, nat_tests) in
    absurd (omega (arith, six, lt, length-take 6 bytes)))
  where
    isn't : (b : Bool) → (b ≡ true → ⊥) → b ≡ false
    isn't true h = absurd (h refl)
    isn't false h = refl

version_is : (bytes : List ℕ) → image_of bytes ≡ versioned (version_at bytes)
unfolding image_of version_at magic_at picked_by ◌>>=◌
version_is bytes = elim (nat_lt (length bytes) 6) as (λ few. nat_lt (length bytes) 6 ≡ few
    → cond (bytes_eq (take 6 bytes) magic) (versioned (u16_at (drop 6 bytes))) (Err fault.Bad) ≡ versioned (behind_six (cond few None (Some (take 6 bytes, drop 6 bytes))))) [
      | true ↦ λ few. rw (too_short bytes few) refl
      | false ↦ λ many. elim (bytes_eq (take 6 bytes) magic) as (λ same. cond same (versioned (u16_at (drop 6 bytes))) (Err fault.Bad) ≡ versioned (number_of same (drop 6 bytes))) [ true ↦ refl | false ↦ refl ]
    ] refl

-- ---- over known bytes
stopped : (a : Option (List ℕ)) → Lacks a version_at → AreRead a (Err fault.Bad)
stopped None h = tt
stopped (Some bytes) h = version_is bytes ∙ ap versioned h

unknown : (a b : Option (List ℕ)) (n : ℕ) → is_known n ≡ false → Leaves a b version_at n → AreRead a (Err (fault.Version n))
unknown None b n other h = tt
unknown (Some bytes) b n other h = version_is bytes ∙ ap versioned h.1 ∙ ap (λ t. cond t (if_sane (whole (body_at n h.0))) (Err (fault.Version n))) other

-- the version is known
module _ (n : ℕ) (known : is_known n ≡ true) where
  behind : (bytes rest : List ℕ) → version_at bytes ≡ Some (n, rest) → image_of bytes ≡ judged (sane_at n rest)
  behind bytes rest h = version_is bytes ∙ ap versioned h ∙ ap (λ t. cond t (if_sane (whole (body_at n rest))) (Err (fault.Version n))) known ∙ sym (sane_is n rest)

  read_both : (a b c : Option (List ℕ)) (i : Image) → Leaves a b version_at n → Leaves b c (sane_at n) i → AreRead a (Ok i)
  read_both None b c i h k = tt
  read_both (Some bytes) None c i h k = absurd (none_some h.0 h.2)
  read_both (Some bytes) (Some mid) c i h k = behind bytes h.0 h.1 ∙ ap judged (ap (sane_at n) (sym (some_inj mid h.0 h.2)) ∙ k.1)

  stopped_behind : (a b : Option (List ℕ)) → Leaves a b version_at n → Lacks b (sane_at n) → AreRead a (Err fault.Bad)
  stopped_behind None b h k = tt
  stopped_behind (Some bytes) None h k = absurd (none_some h.0 h.2)
  stopped_behind (Some bytes) (Some mid) h k = behind bytes h.0 h.1 ∙ ap judged (ap (sane_at n) (sym (some_inj mid h.0 h.2)) ∙ k)

-- ---- of an input
module _ {R : Type 0} (g : Ghosts R) where
  pub load_stops : (a b : R) (u : Unread) (r : Result Image LoadFault) → r ≡ Err (told u) → Stops g a b version_at u → Loads g a b r
  load_stops a b u r is s = subst (λ (x : Result Image LoadFault). Loads g a b x) (sym is) (go u s)
    where
      go : (v : Unread) → Stops g a b version_at v → Loads g a b (Err (told v))
      go unread.Bad t = stopped (g.remaining a) t.why
      go unread.Io t = t.why
      go unread.NoMemory t = tt

  pub load_unknown : (a b : R) (n : ℕ) → is_known n ≡ false → HasRead g a b version_at n → AreRead (g.remaining a) (Err (fault.Version n))
  load_unknown a b n other p = unknown (g.remaining a) (g.remaining b) n other p.bytes

  pub load_read : (a b c : R) (n : ℕ) (i : Image) → is_known n ≡ true → HasRead g a b version_at n → HasRead g b c (sane_at n) i → is_sane i ≡ true → HasLoaded g a c i
  load_read a b c n i known p q sane = record { bytes = read_both n known (g.remaining a) (g.remaining b) (g.remaining c) i p.bytes q.bytes; sane = (sane_decides i).0 sane; faults = q.faults ∙ p.faults }

  pub load_stops_behind : (a b c : R) (n : ℕ) (u : Unread) (r : Result Image LoadFault) → is_known n ≡ true → r ≡ Err (told u) → HasRead g a b version_at n → Stops g b c (sane_at n) u → Loads g a c r
  load_stops_behind a b c n u r known is p s = subst (λ (x : Result Image LoadFault). Loads g a c x) (sym is) (go u s)
    where
      go : (v : Unread) → Stops g b c (sane_at n) v → Loads g a c (Err (told v))
      go unread.Bad t = stopped_behind n known (g.remaining a) (g.remaining b) p.bytes t.why
      go unread.Io t = later_failed g a b c p.faults t.why
      go unread.NoMemory t = tt
