-- The record with which the bytes that are here begin is read there, whatever follows them.
use Rattle.std.proofs.Common.{◌-◌, List, ℕ, length, take, sym, subst}
use Rattle.std.specs.Io.KnownBytes.{Consumes}
use Rattle.tab_image.specs.Laying.{lent_record}
use Rattle.tab_image.proofs.FrontLemmas.{rest_shorter, front_read}
use Rattle.tab_image.proofs.record_reading.read_front.Goals as goal

pub overflow_sub-count : goal.overflow_sub-count
overflow_sub-count g c = rest_shorter _ _ _ c.in-Some.ensures.record

pub returns : goal.returns
returns g c =
    let i = g.R.Input in
    let front : List ℕ = c.front-front.result.now in
    let rest : List ℕ = c.in-Some.rest.now in
    let taken : Consumes (i.remaining c.args.input.now) (i.remaining c.consume.new.self) (take (length front - length rest) front) =
    subst (λ (z : List ℕ). Consumes (i.remaining c.args.input.now) (i.remaining c.consume.new.self) (take (length front - length rest) z)) (sym c.front-front.ensures.value) c.consume.ensures.bytes in
    record {
      last = lent_record c.in-Some.record;
      read = front_read front rest _ c.in-Some.ensures.record i c.args.input.now c.consume.new.self taken c.consume.ensures.calls.0;
      added = c.in_ok-push.ensures.ok;
    }
