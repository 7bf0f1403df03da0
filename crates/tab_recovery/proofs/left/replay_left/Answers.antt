use Rattle.std.proofs.Common.{◌≡◌, ◌+◌, ◌≤◌, ℕ, List, [], ◌∷◌, ◌++◌, length, sym, subst, ap, ◌∙◌, arith}
use Rattle.tab_journal.specs.Readers.{Advances}
use Rattle.tab_recovery.proofs.Leaving.{bodies, bodies_more, HasDone, more_done, few_done, all_recovered}
use Rattle.tab_recovery.proofs.left.replay_left.Goals as goal

pub batches-preserved : goal.batches-preserved
batches-preserved g c =
    let now = c.advance.new.device in
    let bs = c.batches.invariant.2.0 in
    let done = c.batches.invariant.2.2 in
    let next = subst (Advances (g.D.Device.seen now) (g.D.Source.is_read now) c.advance.new.self bs) c.in-Ok-true.field-0-test (c.in-Ok-true.ensures.next bs c.batches.invariant.2.1) in
    let body = c.body-body.result.now in
    let here : body ≡ next.0.body = c.body-body.ensures ∙ next.2 in
    let few : c.in-Ok.more ≤ length body = few_done c.batches.core c.replay.new.core body c.in-Ok.more c.are_bytes.ensures c.in-Ok.ensures in
    let taken = c.in-Ok-true.ensures.more c.in-Ok-true.field-0-test in
    let low = c.batches.invariant.1 in
    let long = ap length c.body-body.ensures in
    let fits = c.advance.new.self.cursor.fits in
    let sum : c.saturating_add-count.result ≡ c.batches.count + c.in-Ok.more = omega (arith, c.saturating_add-count.ensures, few, taken, low, long, fits) in
    let all = more_done c.args.core.now c.batches.core c.replay.new.core (bodies bs) body c.batches.count c.in-Ok.more done c.are_bytes.ensures c.in-Ok.ensures in (
      c.in-Ok-true.ensures.usable,
      omega (arith, sum, few, taken, low, long),
      (
        bs ++ next.0 ∷ [],
        next.1,
        subst (λ (z : List ℕ). HasDone c.args.core.now z c.saturating_add-count.result c.replay.new.core) (sym (bodies_more bs next.0 body here))
            (subst (λ (n : ℕ). HasDone c.args.core.now (bodies bs ++ body) n c.replay.new.core) (sym sum) all),
      ),
    )

pub returns-clause-done : goal.returns-clause-done
returns-clause-done g c =
    let now = c.advance.new.device in
    let bs = c.batches.invariant.2.0 in
    let done = c.batches.invariant.2.2 in
    let read = subst (Advances (g.D.Device.seen now) (g.D.Source.is_read now) c.advance.new.self bs) c.in-Ok-false.field-0-test (c.in-Ok-false.ensures.next bs c.batches.invariant.2.1) in
    (_, read.2, all_recovered c.args.core.now c.batches.core (bodies bs) c.batches.count done)
