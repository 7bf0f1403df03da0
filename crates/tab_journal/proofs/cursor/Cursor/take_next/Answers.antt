use Rattle.std.proofs.Common.{rules, ◌≡◌, ◌+◌, ◌-◌, ◌≤◌, ℕ, List, length, refl, ap, ◌∙◌, arith}
use Rattle.std.proofs.lemmas.List.{length-drop}
use Rattle.tab_journal.specs.Cursors.{unread_of}
use Rattle.tab_journal.specs.Said.{batch_in}
use Rattle.tab_journal.proofs.Taken.{batch_here, placed_more, taken_more, body_here}
use Rattle.tab_journal.proofs.cursor.Cursor.take_next.Goals as goal

pub overflow_sub-count : goal.overflow_sub-count
overflow_sub-count c =
    let s = c.args.self.now in
    let same : c.split_at.result.1.now ≡ unread_of s = search rules in
    let t = batch_here s.header.seal s.sum (unread_of s) c.split_at.result.1.now c.in-Some.rest.now (batch_in c.in-Some.batch) same c.are_bytes.ensures c.in-Some.ensures in
    omega (arith, t.short, ap length same)

pub invariant_of-self : goal.invariant_of-self
invariant_of-self c =
    let s = c.args.self.now in
    let same : c.split_at.result.1.now ≡ unread_of s = search rules in
    let t = batch_here s.header.seal s.sum (unread_of s) c.split_at.result.1.now c.in-Some.rest.now (batch_in c.in-Some.batch) same c.are_bytes.ensures c.in-Some.ensures in
    let all : length (unread_of s) ≡ length s.buffer.items - s.start = length-drop s.start s.buffer.items in
    record {
      within = omega (arith, t.count, t.within, all, s.within, ap length same);
      behind = omega (arith, t.count, t.room, s.behind, ap length same);
      fits = omega (arith, t.count, t.within, all, s.within, s.fits, ap length same);
    }

pub returns : goal.returns
returns c =
    let s = c.args.self.now in
    let b = batch_in c.in-Some.batch in
    let same : c.split_at.result.1.now ≡ unread_of s = search rules in
    let t = batch_here s.header.seal s.sum (unread_of s) c.split_at.result.1.now c.in-Some.rest.now b same c.are_bytes.ensures c.in-Some.ensures in
    let low : 8 ≤ s.start = omega (arith, s.behind) in
    let count : length c.split_at.result.1.now - length c.in-Some.rest.now ≡ length t.text = ap (λ (z : List ℕ). length z - length c.in-Some.rest.now) same ∙ t.count in
    record {
      batch = b;
      header = refl;
      placed = λ bytes p. placed_more bytes s p _ (length t.text) t.within low refl (ap (λ (k : ℕ). s.start + k) count) (ap (λ (k : ℕ). s.taken + k) count);
      taken = λ bytes bs h. taken_more bytes s _ bs h low t.text c.in-Some.rest.now b t.parts t.is refl refl (ap (λ (k : ℕ). s.start + k) count) (ap (λ (k : ℕ). s.taken + k) count) refl c.is_still_timely-self.ensures;
      body = body_here s low t.text c.in-Some.rest.now b t.parts t.is s.buffer.items _ (length c.in-Some.batch.body.now) refl (ap (λ (k : ℕ). s.start + k) count) refl (omega (arith, s.within));
      more = omega (arith, count, t.room);
    }
