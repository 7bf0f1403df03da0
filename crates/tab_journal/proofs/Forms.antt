-- Headers, entries and batches are read exactly where they stand.
use Rattle.std.proofs.Common.{◌≡◌, ℕ, ◌^◌, ◌<◌, ◌≤◌, ◌==◌, Bool, true, false, cond, List, ◌++◌, length, take, drop, Option, Some, None, refl, sym, ap, subst, ◌∙◌, append_assoc, arith}
use Rattle.std.specs.Prelude.{bytes_eq}
use Rattle.std.specs.Int.{w32, w64, to_be_bytes, cast_unsigned}
use Rattle.std.proofs.lemmas.Int.{to_z-of_z}
use Rattle.std.proofs.lemmas.Bool.Decides.{nat_tests}
use Rattle.std.proofs.lemmas.Slice.Eq.{bytes_eq-Decides}
use Rattle.std.proofs.lemmas.List.{take_at, drop_at, length-append}
use Rattle.tab_history.specs.declared.event.Act.{Act}
use Rattle.tab_history.specs.declared.event.Event.{Event}
use Rattle.tab_codec.specs.Parts.{IsBytes, IsU64, IsI64, IsField, IsNameField}
use Rattle.tab_codec.specs.Reading.{Reader, and_then, picked, u64_at, i64_at, bytes_at, field_at, name_at}
use Rattle.tab_codec.specs.Exactness.{Exact}
use Rattle.tab_codec.proofs.Exact.{bytes-drop, bytes-take, some_inj, bind_some, on_bind, exact_as, Follows, exact_then, Picks, exact_picked, exact_given, exact_u64, exact_bytes}
use Rattle.tab_codec.proofs.PartLaw.{exact_i64, exact_field, exact_name, only_passed, only_passes, field_long, eq_is}
use Rattle.tab_wire.specs.Requests.{request_in}
use Rattle.tab_wire.specs.declared.request.Request.{Request}
use Rattle.tab_wire.specs.declared.request.Request.TheVariants as asks
use Rattle.tab_wire.specs.Replies.{u32, u64, i64, field}
use Rattle.tab_wire.proofs.RequestLaw.{requests_are_forms}
use Rattle.tab_journal.specs.declared.format.Format.{Format}
use Rattle.tab_journal.specs.declared.format.Format.TheVariants.{Lines, Events}
use Rattle.tab_journal.specs.declared.seal.Form.{Form}
use Rattle.tab_journal.specs.declared.seal.Form.TheVariants.{Plain, Tagged}
use Rattle.tab_journal.specs.declared.seal.Seal.{Seal}
use Rattle.tab_journal.specs.Journals.{sum_of, mark, Header, header_summed, IsHeader, IsText, IsEntry, Batch, batch_summed, IsSummed, IsTagOf, IsTag, IsBatch}
use Rattle.tab_journal.specs.Laws.{FitsFront, FitsTag, TextsHaveForm}
use Rattle.tab_journal.specs.Spelling.{header_bytes, tag_bytes, summed_bytes, batch_bytes}
use Rattle.tab_journal.specs.Reading.{kind_of, header_of, mark_at, header_at, act_of, event_of, entry_at, batch_of, summed_at, tag_of, tag_in, batch_at}

equal : (n k : ℕ) → n ≡ k → (n == k) ≡ true
equal n k e = grind (arith, nat_tests, e)

-- ---- fields of bytes
text_fits : (front text rest : List ℕ) → IsBytes (front ++ rest) → IsField front text → IsBytes text
text_fits front text rest fits is =
    let whole : front ++ rest ≡ to_be_bytes w32 (length text) ++ (text ++ rest) = ap (λ (z : List ℕ). z ++ rest) is.0 ∙ append_assoc (to_be_bytes w32 (length text)) text rest in
    let dropped : drop 4 (front ++ rest) ≡ text ++ rest = ap (λ (z : List ℕ). drop 4 z) whole ∙ drop_at (to_be_bytes w32 (length text)) (text ++ rest) 4 refl in
    let taken : take (length text) (drop 4 (front ++ rest)) ≡ text = ap (λ (z : List ℕ). take (length text) z) dropped ∙ take_at text rest (length text) refl in
    subst IsBytes taken (bytes-take (length text) (drop 4 (front ++ rest)) (bytes-drop 4 (front ++ rest) fits))

exact_text : Exact field_at IsText
exact_text = record {
  sound = λ bytes text rest fits is.
      let t = exact_field.sound bytes text rest fits is in
      record { front = t.front; parts = t.parts; says = (t.says, text_fits t.front text rest (subst IsBytes t.parts fits) t.says); fits = t.fits };
  complete = λ front rest text is. exact_field.complete front rest text is.0;
}

-- ---- the header
abbrev Kind : Type 0
Kind = Format × Form

abbrev IsMark : List ℕ → Kind → Type 0
IsMark bytes k = bytes ≡ mark k.0 k.1

abbrev kind_when : Bool → Bool → Bool → Bool → Option Kind
kind_when a b c d = cond a (Some (Lines, Plain)) (cond b (Some (Events, Plain)) (cond c (Some (Lines, Tagged)) (cond d (Some (Events, Tagged)) None)))

marked : (k x : Kind) (text : List ℕ) → bytes_eq text (mark k.0 k.1) ≡ true → Some k ≡ Some x → IsMark text x
marked k x text same is = (bytes_eq-Decides text (mark k.0 k.1)).0 same ∙ ap (λ (z : Kind). mark z.0 z.1) (some_inj k x is)

kind_by : (a b c d : Bool) (text : List ℕ) (k : Kind) → bytes_eq text (mark Lines Plain) ≡ a → bytes_eq text (mark Events Plain) ≡ b → bytes_eq text (mark Lines Tagged) ≡ c → bytes_eq text (mark Events Tagged) ≡ d → kind_when a b c d ≡ Some k → IsMark text k
kind_by true b c d text k first second third fourth is = marked (Lines, Plain) k text first is
kind_by false true c d text k first second third fourth is = marked (Events, Plain) k text second is
kind_by false false true d text k first second third fourth is = marked (Lines, Tagged) k text third is
kind_by false false false true text k first second third fourth is = marked (Events, Tagged) k text fourth is
kind_by false false false false text k first second third fourth is = absurd cc

kind_again : (format : Format) (form : Form) → kind_of (mark format form) ≡ Some (format, form)
kind_again Lines Plain = refl
kind_again Events Plain = refl
kind_again Lines Tagged = refl
kind_again Events Tagged = refl

mark_to : (bytes : List ℕ) (k : Kind) → Picks (λ (bs text : List ℕ). (bs ≡ text) × (length text ≡ 8)) kind_of bytes k → IsMark bytes k
mark_to bytes k p = p.says.0 ∙ kind_by (bytes_eq p.first (mark Lines Plain)) (bytes_eq p.first (mark Events Plain)) (bytes_eq p.first (mark Lines Tagged)) (bytes_eq p.first (mark Events Tagged)) p.first k refl refl refl refl p.picks

pub mark_long : (format : Format) (form : Form) → length (mark format form) ≡ 8
mark_long Lines Plain = refl
mark_long Events Plain = refl
mark_long Lines Tagged = refl
mark_long Events Tagged = refl

mark_back : (bytes : List ℕ) (k : Kind) → IsMark bytes k → Picks (λ (bs text : List ℕ). (bs ≡ text) × (length text ≡ 8)) kind_of bytes k
mark_back bytes k is = record { first = mark k.0 k.1; says = (is, mark_long k.0 k.1); picks = kind_again k.0 k.1 }

exact_mark : Exact mark_at IsMark
unfolding mark_at
exact_mark = exact_as IsMark (exact_picked kind_of (bytes_at 8) (λ bs text. (bs ≡ text) × (length text ≡ 8)) (exact_bytes 8)) mark_to mark_back

abbrev FrontParts : List ℕ → Header → Type 0
FrontParts = Follows IsMark (λ x. Follows IsU64 (λ g. Follows IsU64 (λ n. Follows IsI64 (λ c. Follows IsU64 (λ s. Picks IsU64 (header_of x g n c s))))))

abbrev front_parts_at : Reader Header
front_parts_at = and_then mark_at (λ x. and_then u64_at (λ g. and_then u64_at (λ n. and_then i64_at (λ c. and_then u64_at (λ s. picked (header_of x g n c s) u64_at)))))

exact_front_parts : Exact front_parts_at FrontParts
exact_front_parts =
    exact_then mark_at IsMark _ _ exact_mark (λ x.
    exact_then u64_at IsU64 _ _ exact_u64 (λ g.
    exact_then u64_at IsU64 _ _ exact_u64 (λ n.
    exact_then i64_at IsI64 _ _ exact_i64 (λ c.
    exact_then u64_at IsU64 _ _ exact_u64 (λ s.
    exact_picked (header_of x g n c s) u64_at IsU64 exact_u64)))))

front_to : (bytes : List ℕ) (f : Header) → FrontParts bytes f → IsHeader bytes f
front_to bytes f a =
    let b = a.next in
    let c = b.next in
    let d = c.next in
    let e = d.next in
    let p = e.next in
    let seal : Seal = record { form = a.first.1; salt = e.first } in
    let made : Header = record { format = a.first.0; generation = b.first; next = c.first; clock = d.first; seal = seal; sum = p.first } in
    let is = only_passed (λ (x : Header). x.sum == sum_of (header_summed x.format x.generation x.next x.clock x.seal)) made f p.picks in
    subst (λ (x : Header). IsHeader bytes x) is.1 (record {
      g = b.front;
      n = c.front;
      c = d.front;
      s = e.front;
      m = e.back;
      spelled = a.parts ∙ ap (λ (z : List ℕ). z ++ a.back) a.says ∙ ap (λ (z : List ℕ). mark a.first.0 a.first.1 ++ z)
          (b.parts ∙ ap (λ (z : List ℕ). b.front ++ z) (c.parts ∙ ap (λ (z : List ℕ). c.front ++ z) (d.parts ∙ ap (λ (z : List ℕ). d.front ++ z) e.parts)));
      generation = b.says;
      next = c.says;
      clock = d.says;
      salt = e.says;
      sum = p.says;
      fits = eq_is p.first (sum_of (header_summed a.first.0 b.first c.first d.first seal)) is.0;
    })

front_back : (bytes : List ℕ) (f : Header) → IsHeader bytes f → FrontParts bytes f
front_back bytes f is = record {
  first = (f.format, f.seal.form);
  front = mark f.format f.seal.form;
  back = is.g ++ (is.n ++ (is.c ++ (is.s ++ is.m)));
  parts = is.spelled;
  says = refl;
  next = record {
    first = f.generation;
    front = is.g;
    back = is.n ++ (is.c ++ (is.s ++ is.m));
    parts = refl;
    says = is.generation;
    next = record {
      first = f.next;
      front = is.n;
      back = is.c ++ (is.s ++ is.m);
      parts = refl;
      says = is.next;
      next = record {
        first = f.clock;
        front = is.c;
        back = is.s ++ is.m;
        parts = refl;
        says = is.clock;
        next = record {
          first = f.seal.salt;
          front = is.s;
          back = is.m;
          parts = refl;
          says = is.salt;
          next = record {
            first = f.sum;
            says = is.sum;
            picks = only_passes (λ (x : Header). x.sum == sum_of (header_summed x.format x.generation x.next x.clock x.seal)) f (equal f.sum (sum_of (header_summed f.format f.generation f.next f.clock f.seal)) is.fits);
          };
        };
      };
    };
  };
}

pub exact_front : Exact header_at IsHeader
unfolding header_at
exact_front = exact_as IsHeader exact_front_parts front_to front_back

pub front_long : (bytes : List ℕ) (f : Header) → IsHeader bytes f → length bytes ≡ 48
front_long bytes f is =
    let len : length bytes ≡ length (mark f.format f.seal.form ++ (is.g ++ (is.n ++ (is.c ++ (is.s ++ is.m))))) = ap (λ (z : List ℕ). length z) is.spelled in
    let g : length is.g ≡ 8 = ap (λ (z : List ℕ). length z) is.generation.0 in
    let n : length is.n ≡ 8 = ap (λ (z : List ℕ). length z) is.next.0 in
    let c : length is.c ≡ 8 = ap (λ (z : List ℕ). length z) is.clock.1.0 in
    let s : length is.s ≡ 8 = ap (λ (z : List ℕ). length z) is.salt.0 in
    let m : length is.m ≡ 8 = ap (λ (z : List ℕ). length z) is.sum.0 in
    omega (
      arith,
      len,
      g,
      n,
      c,
      s,
      m,
      mark_long f.format f.seal.form,
      length-append (mark f.format f.seal.form) (is.g ++ (is.n ++ (is.c ++ (is.s ++ is.m)))),
      length-append is.g (is.n ++ (is.c ++ (is.s ++ is.m))),
      length-append is.n (is.c ++ (is.s ++ is.m)),
      length-append is.c (is.s ++ is.m),
      length-append is.s is.m,
    )

-- ---- entries
asked_act : (o : Option Request) (a : Act) → act_of o ≡ Some a → o ≡ Some (asks.Act a)
asked_act (Some (asks.Act x)) a e = ap (λ (z : Act). Some (asks.Act z)) (some_inj x a e)
asked_act None a e = absurd cc
asked_act (Some request) a e = absurd cc

abbrev EntryParts : List ℕ → Event → Type 0
EntryParts = Follows IsI64 (λ moment. Follows IsNameField (λ user. Picks IsText (event_of moment user)))

abbrev entry_parts_at : Reader Event
entry_parts_at = and_then i64_at (λ moment. and_then name_at (λ user. picked (event_of moment user) field_at))

exact_entry_parts : Exact entry_parts_at EntryParts
exact_entry_parts =
    exact_then i64_at IsI64 _ _ exact_i64 (λ moment.
    exact_then name_at IsNameField _ _ exact_name (λ user.
    exact_picked (event_of moment user) field_at IsText exact_text))

entry_to : (bytes : List ℕ) (e : Event) → EntryParts bytes e → IsEntry bytes e
entry_to bytes e a =
    let b = a.next in
    let p = b.next in
    on_bind (act_of (request_in p.first)) (λ act. Some (record { user = b.first; moment = a.first; act = act })) e (IsEntry bytes e) p.picks (λ act asked made.
    subst (λ (x : Event). IsEntry bytes x) (some_inj (record { user = b.first; moment = a.first; act = act }) e made) (record {
      c = a.front;
      u = b.front;
      f = b.back;
      body = p.first;
      spelled = a.parts ∙ ap (λ (z : List ℕ). a.front ++ z) b.parts;
      moment = a.says;
      user = b.says;
      text = p.says;
      act = (requests_are_forms p.first (asks.Act act) p.says.1).0 (asked_act (request_in p.first) act asked);
    }))

entry_back : (bytes : List ℕ) (e : Event) → IsEntry bytes e → EntryParts bytes e
entry_back bytes e is = record {
  first = e.moment;
  front = is.c;
  back = is.u ++ is.f;
  parts = is.spelled;
  says = is.moment;
  next = record {
    first = e.user;
    front = is.u;
    back = is.f;
    parts = refl;
    says = is.user;
    next = record {
      first = is.body;
      says = is.text;
      picks = bind_some (act_of (request_in is.body)) e.act (λ act. Some (record { user = e.user; moment = e.moment; act = act })) (Some e)
          (ap (λ (o : Option Request). act_of o) ((requests_are_forms is.body (asks.Act e.act) is.text.1).1 is.act)) refl;
    };
  };
}

pub exact_entry : Exact entry_at IsEntry
unfolding entry_at
exact_entry = exact_as IsEntry exact_entry_parts entry_to entry_back

pub entry_long : (bytes : List ℕ) (e : Event) → IsEntry bytes e → 16 ≤ length bytes
entry_long bytes e is =
    let len : length bytes ≡ length (is.c ++ (is.u ++ is.f)) = ap (λ (z : List ℕ). length z) is.spelled in
    let c : length is.c ≡ 8 = ap (λ (z : List ℕ). length z) is.moment.1.0 in
    omega (arith, len, c, length-append is.c (is.u ++ is.f), length-append is.u is.f, field_long is.u e.user is.user.0, field_long is.f is.body is.text.0)

-- ---- batches without their tags
module _ (salt before : ℕ) where
  abbrev BatchParts : List ℕ → Batch → Type 0
  BatchParts = Follows IsU64 (λ settled. Follows IsField (λ body. Picks IsU64 (batch_of salt before settled body)))

  abbrev batch_parts_at : Reader Batch
  batch_parts_at = and_then u64_at (λ settled. and_then field_at (λ body. picked (batch_of salt before settled body) u64_at))

  exact_batch_parts : Exact batch_parts_at BatchParts
  exact_batch_parts =
      exact_then u64_at IsU64 _ _ exact_u64 (λ settled.
      exact_then field_at IsField _ _ exact_field (λ body.
      exact_picked (batch_of salt before settled body) u64_at IsU64 exact_u64))

  batch_to : (bytes : List ℕ) (b : Batch) → BatchParts bytes b → IsSummed salt before bytes b
  batch_to bytes b a =
      let c = a.next in
      let p = c.next in
      let made : Batch = record { settled = a.first; body = c.first; sum = p.first } in
      let is = only_passed (λ (x : Batch). x.sum == sum_of (batch_summed salt before x.settled x.body)) made b p.picks in
      subst (λ (x : Batch). IsSummed salt before bytes x) is.1 (record {
        s = a.front;
        f = c.front;
        m = c.back;
        spelled = a.parts ∙ ap (λ (z : List ℕ). a.front ++ z) c.parts;
        settled = a.says;
        body = c.says;
        sum = p.says;
        fits = eq_is p.first (sum_of (batch_summed salt before a.first c.first)) is.0;
      })

  batch_back : (bytes : List ℕ) (b : Batch) → IsSummed salt before bytes b → BatchParts bytes b
  batch_back bytes b is = record {
    first = b.settled;
    front = is.s;
    back = is.f ++ is.m;
    parts = is.spelled;
    says = is.settled;
    next = record {
      first = b.body;
      front = is.f;
      back = is.m;
      parts = refl;
      says = is.body;
      next = record {
        first = b.sum;
        says = is.sum;
        picks = only_passes (λ (x : Batch). x.sum == sum_of (batch_summed salt before x.settled x.body)) b (equal b.sum (sum_of (batch_summed salt before b.settled b.body)) is.fits);
      };
    };
  }

  pub exact_summed : Exact (summed_at salt before) (IsSummed salt before)
  unfolding summed_at
  exact_summed = exact_as (IsSummed salt before) exact_batch_parts batch_to batch_back

  pub summed_long : (bytes : List ℕ) (b : Batch) → IsSummed salt before bytes b → 20 ≤ length bytes
  summed_long bytes b is =
      let len : length bytes ≡ length (is.s ++ (is.f ++ is.m)) = ap (λ (z : List ℕ). length z) is.spelled in
      let s : length is.s ≡ 8 = ap (λ (z : List ℕ). length z) is.settled.0 in
      let m : length is.m ≡ 8 = ap (λ (z : List ℕ). length z) is.sum.0 in
      omega (arith, len, s, m, length-append is.s (is.f ++ is.m), length-append is.f is.m, field_long is.f b.body is.body)

-- ---- batches
abbrev tag_when : Bool → Option (Unit {0})
tag_when b = cond b (Some tt) None

tag_is : (salt n : ℕ) (b : Bool) (u : Unit {0}) → (n == salt) ≡ b → tag_when b ≡ Some u → n ≡ salt
tag_is salt n true u same is = eq_is n salt same
tag_is salt n false u same is = absurd cc

tag_to : (salt : ℕ) (bytes : List ℕ) (u : Unit {0}) → Picks IsU64 (tag_of salt) bytes u → IsU64 bytes salt
tag_to salt bytes u p = subst (IsU64 bytes) (tag_is salt p.first (p.first == salt) u refl p.picks) p.says

tag_back : (salt : ℕ) (bytes : List ℕ) (u : Unit {0}) → IsU64 bytes salt → Picks IsU64 (tag_of salt) bytes u
tag_back salt bytes u is = record { first = salt; says = is; picks = ap tag_when (equal salt salt refl) }

pub exact_tag : (form : Form) (salt : ℕ) → Exact (tag_in form salt) (λ bytes u. IsTagOf form salt bytes)
unfolding tag_in
exact_tag Plain salt = exact_as (λ bytes u. IsTagOf Plain salt bytes) (exact_given tt) (λ bytes u is. is.0) (λ bytes u is. (is, refl))
exact_tag Tagged salt = exact_as (λ bytes u. IsTagOf Tagged salt bytes) (exact_picked (tag_of salt) u64_at IsU64 exact_u64) (tag_to salt) (tag_back salt)

module _ (seal : Seal) (before : ℕ) where
  pub exact_batch : Exact (batch_at seal before) (IsBatch seal before)
  unfolding batch_at
  exact_batch = exact_as (IsBatch seal before)
      (exact_then (tag_in seal.form seal.salt) (λ bytes u. IsTag seal bytes) (λ u. summed_at seal.salt before) (λ u. IsSummed seal.salt before) (exact_tag seal.form seal.salt) (λ u. exact_summed seal.salt before))
      (λ bytes b a. record { t = a.front; r = a.back; whole = a.parts; tag = a.says; summed = a.next })
      (λ bytes b is. record { first = tt; front = is.t; back = is.r; parts = is.whole; says = is.tag; next = is.summed })

  pub batch_long : (bytes : List ℕ) (b : Batch) → IsBatch seal before bytes b → 20 ≤ length bytes
  batch_long bytes b is = omega (arith, ap (λ (z : List ℕ). length z) is.whole, length-append is.t is.r, summed_long seal.salt before is.r b is.summed)

-- ---- what is written
pub front_written : (f : Header) → FitsFront f → IsHeader (header_bytes f) f
unfolding u64 i64
front_written f fits = record {
  g = u64 f.generation;
  n = u64 f.next;
  c = i64 f.clock;
  s = u64 f.seal.salt;
  m = u64 f.sum;
  spelled = refl;
  generation = (refl, fits.generation);
  next = (refl, fits.next);
  clock = (cast_unsigned w64 f.clock, (refl, fits.bits), sym (to_z-of_z w64 f.clock fits.clock));
  salt = (refl, fits.salt);
  sum = (refl, fits.sum);
  fits = fits.right;
}

tag_written : (form : Form) (salt : ℕ) → FitsTag form salt → IsTagOf form salt (tag_bytes form salt)
unfolding u64
tag_written Plain salt fits = refl
tag_written Tagged salt fits = (refl, fits)

summed_written : (salt before settled : ℕ) (body : List ℕ) → settled < 2 ^ 64 → length body < 2 ^ 32 → sum_of (batch_summed salt before settled body) < 2 ^ 64
    → IsSummed salt before (summed_bytes salt before settled body) (record { settled = settled; body = body; sum = sum_of (batch_summed salt before settled body) })
unfolding u32 u64
summed_written salt before settled body low short fits = record {
  s = u64 settled;
  f = field body;
  m = u64 (sum_of (batch_summed salt before settled body));
  spelled = refl;
  settled = (refl, low);
  body = (refl, short);
  sum = (refl, fits);
  fits = refl;
}

pub batch_written : (seal : Seal) (before settled : ℕ) (body : List ℕ) → FitsTag seal.form seal.salt → settled < 2 ^ 64 → length body < 2 ^ 32 → sum_of (batch_summed seal.salt before settled body) < 2 ^ 64
    → IsBatch seal before (batch_bytes seal before settled body) (record { settled = settled; body = body; sum = sum_of (batch_summed seal.salt before settled body) })
batch_written seal before settled body tag low short fits = record {
  t = tag_bytes seal.form seal.salt;
  r = summed_bytes seal.salt before settled body;
  whole = refl;
  tag = tag_written seal.form seal.salt tag;
  summed = summed_written seal.salt before settled body low short fits;
}

pub fits_tag : (form : Form) (salt : ℕ) → salt < 2 ^ 64 → FitsTag form salt
fits_tag Plain salt fits = tt
fits_tag Tagged salt fits = fits

pub texts_have_form : TextsHaveForm
texts_have_form = (front_written, batch_written)
