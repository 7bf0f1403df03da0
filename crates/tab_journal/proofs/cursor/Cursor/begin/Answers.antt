use Rattle.std.proofs.Common.{rules, ◌≡◌, ◌-◌, ◌<◌, ◌^◌, length, refl, sym, subst, arith}
use Rattle.std.specs.Prelude.{vec_len}
use Rattle.tab_codec.specs.Parts.{IsBytes}
use Rattle.tab_journal.specs.Said.{header_in}
use Rattle.tab_journal.proofs.Taken.{header_here, begins}
use Rattle.tab_journal.proofs.cursor.Cursor.begin.Goals as goal

pub overflow_sub-start : goal.overflow_sub-start
overflow_sub-start c =
    let fits : IsBytes c.args.bytes.items = subst IsBytes c.as_slice.ensures.value c.are_bytes.ensures in
    let from = c.as_slice-2.ensures.value in
    let t = header_here c.args.bytes.items c.as_slice-2.result.now c.in_ok-header.rest.now (header_in c.in_ok-header.header) from (subst IsBytes (sym from) fits) c.in_ok-header.ensures in
    let n : c.len.result ≡ length c.args.bytes.items = search rules in
    omega (arith, n, t.4)

pub invariant_of-result : goal.invariant_of-result
invariant_of-result c =
    let fits : IsBytes c.args.bytes.items = subst IsBytes c.as_slice.ensures.value c.are_bytes.ensures in
    let from = c.as_slice-2.ensures.value in
    let t = header_here c.args.bytes.items c.as_slice-2.result.now c.in_ok-header.rest.now (header_in c.in_ok-header.header) from (subst IsBytes (sym from) fits) c.in_ok-header.ensures in
    let n : c.len.result ≡ length c.args.bytes.items = search rules in
    let m : c.len.result ≡ vec_len c.args.bytes = search rules in
    let small : c.len.result < 2 ^ 64 = search rules in
    record { within = omega (arith, n, m, t.3, t.4); behind = omega (arith, n, t.3); fits = omega (arith, n, m, t.3, t.4, small) }

pub returns-clause-taken : goal.returns-clause-taken
returns-clause-taken c =
    let fits : IsBytes c.args.bytes.items = subst IsBytes c.as_slice.ensures.value c.are_bytes.ensures in
    let from = c.as_slice-2.ensures.value in
    let t = header_here c.args.bytes.items c.as_slice-2.result.now c.in_ok-header.rest.now (header_in c.in_ok-header.header) from (subst IsBytes (sym from) fits) c.in_ok-header.ensures in
    let n : c.len.result ≡ length c.args.bytes.items = search rules in
    let start : c.len.result - length c.in_ok-header.rest.now ≡ 48 = omega (arith, n, t.3) in
    begins c.args.bytes.items t.0 c.in_ok-header.rest.now _ t.1 t.2 refl start start refl refl fits
