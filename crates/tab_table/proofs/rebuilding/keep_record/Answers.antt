-- A record is read alike wherever its bytes lie.
use Rattle.std.proofs.Common.{◌≡◌, ◌+◌, ◌-◌, ◌≤◌, sym, ◌∙◌, ap, subst, length, take, arith}
use Rattle.std.specs.List.{slice_range}
use Rattle.tab_key.specs.Encoding.{record_at, span_at, IsAt}
use Rattle.tab_key.proofs.Windows.{ends_behind, piece_at, piece_record}
use Rattle.tab_mem.proofs.Pasted.{within_moved}
use Rattle.tab_table.proofs.rebuilding.keep_record.Goals as goal

pub copy_within-requires-clause-start_le_end : goal.copy_within-requires-clause-start_le_end
copy_within-requires-clause-start_le_end c = omega (arith, c.end_of-end.ensures, ends_behind c.args.out.now c.args.place)

pub overflow_sub-result : goal.overflow_sub-result
overflow_sub-result c = omega (arith, c.end_of-end.ensures, ends_behind c.args.out.now c.args.place)

pub returns-clause-within : goal.returns-clause-within
returns-clause-within c =
    let old = c.args.out.now in
    let place = c.args.place in
    let end = c.end_of-end.result in
    let order : place ≤ end = omega (arith, c.end_of-end.ensures, ends_behind old place) in
    let inside : end ≤ length old = omega (arith, c.end_of-end.ensures, c.requires.within.whole) in
    let width : end - place ≡ 0 + (end - place) = omega arith in
    let piece : take (end - place) c.copy_within.new.self ≡ slice_range old place (span_at old place).end =
    ap (λ n. take n c.copy_within.new.self) width ∙ ap (take (0 + (end - place))) c.copy_within.ensures.after ∙ within_moved old place end 0 order inside (omega arith) ∙ ap (slice_range old place) c.end_of-end.ensures in
    subst (λ b. IsAt b 0) (sym piece) (piece_at old place c.requires)

pub returns-clause-record : goal.returns-clause-record
returns-clause-record c =
    let old = c.args.out.now in
    let place = c.args.place in
    let end = c.end_of-end.result in
    let order : place ≤ end = omega (arith, c.end_of-end.ensures, ends_behind old place) in
    let inside : end ≤ length old = omega (arith, c.end_of-end.ensures, c.requires.within.whole) in
    let width : end - place ≡ 0 + (end - place) = omega arith in
    let piece : take (end - place) c.copy_within.new.self ≡ slice_range old place (span_at old place).end =
    ap (λ n. take n c.copy_within.new.self) width ∙ ap (take (0 + (end - place))) c.copy_within.ensures.after ∙ within_moved old place end 0 order inside (omega arith) ∙ ap (slice_range old place) c.end_of-end.ensures in
    ap (λ b. record_at b 0) piece ∙ piece_record old place c.requires
