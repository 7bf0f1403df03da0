-- What the restart shares is what the next entry is read on.
use Rattle.std.proofs.Common.{rules, ◌≡◌, ◌≤◌, ◌+◌, List, ℕ, [], ◌++◌, sym, ◌∙◌, ap, subst, length, take, drop, arith}
use Rattle.std.specs.Prelude.{pos}
use Rattle.std.specs.List.{slice_range}
use Rattle.tab_key.specs.Encoding.{length_at, IsAt}
use Rattle.tab_key.specs.Records.{Key}
use Rattle.tab_mem.proofs.Seeking.{blank}
use Rattle.tab_table.specs.Decoding.{key_at, IsDecoded, IsStanding}
use Rattle.tab_table.proofs.Based.{based_at, based_key, share_of}
use Rattle.tab_table.proofs.Begun.{restarted}
use Rattle.tab_table.proofs.Headed.{width_of}
use Rattle.tab_table.proofs.Inside.{counts_inside}
use Rattle.tab_table.proofs.Longer.{back}
use Rattle.tab_table.proofs.Rebuilt.{row_short, family_short, qualifier_short, label_short}
use Rattle.tab_table.proofs.decoded.Decoded.begin.Goals as goal

pub counts_at-counts-requires : goal.counts_at-counts-requires
counts_at-counts-requires c = omega (arith, counts_inside c.args.blocks.now c.args.restart.place c.requires.rest)

pub returns-clause-decoded : goal.returns-clause-decoded
returns-clause-decoded c = λ count index laid lt is.
    let blocks = c.args.blocks.now in
    let shares = c.args.shares.now in
    let start = c.args.restart in
    let p = start.place in
    let from = start.from in
    let n = c.counts_at-counts.result in
    let e = c.counts_at-counts.ensures in
    let size : c.sum-size.result ≡ n.row + n.family + n.qualifier + n.label = c.sum-size.ensures in
    let whole : List ℕ = take c.write_base-self.result c.write_base-self.new.out in
    let parts : List ℕ = slice_range shares from (from + c.sum-size.result) in
    let inside : from + c.sum-size.result ≤ length shares = omega (arith, c.requires.inside, size, e.row, e.family, e.qualifier, e.label) in
    let long : length parts ≡ n.row + n.family + n.qualifier + n.label = omega (arith, width_of shares from (from + c.sum-size.result) inside, size) in
    let row : slice_range parts 0 n.row ≡ slice_range shares from (from + length_at blocks p) = share_of shares from c.sum-size.result 0 n.row from (from + length_at blocks p) inside (omega arith) (omega (arith, e.row)) (omega arith) (omega (arith, size)) in
    let family : slice_range parts n.row (n.row + n.family) ≡ slice_range shares (from + length_at blocks p) (from + length_at blocks p + length_at blocks (p + 4)) = share_of shares from c.sum-size.result n.row (n.row + n.family) (from + length_at blocks p) (from + length_at blocks p + length_at blocks (p + 4)) inside (omega (arith, e.row)) (omega (arith, e.row, e.family)) (omega arith) (omega (arith, size)) in
    let qualifier : slice_range parts (n.row + n.family) (n.row + n.family + n.qualifier) ≡ slice_range shares (from + length_at blocks p + length_at blocks (p + 4)) (from + length_at blocks p + length_at blocks (p + 4) + length_at blocks (p + 8)) = share_of shares from c.sum-size.result (n.row + n.family) (n.row + n.family + n.qualifier) (from + length_at blocks p + length_at blocks (p + 4)) (from + length_at blocks p + length_at blocks (p + 4) + length_at blocks (p + 8)) inside (omega (arith, e.row, e.family)) (omega (arith, e.row, e.family, e.qualifier)) (omega arith) (omega (arith, size)) in
    let label : slice_range parts (n.row + n.family + n.qualifier) (n.row + n.family + n.qualifier + n.label) ≡ slice_range shares (from + length_at blocks p + length_at blocks (p + 4) + length_at blocks (p + 8)) (from + length_at blocks p + length_at blocks (p + 4) + length_at blocks (p + 8) + length_at blocks (p + 12)) = share_of shares from c.sum-size.result (n.row + n.family + n.qualifier) (n.row + n.family + n.qualifier + n.label) (from + length_at blocks p + length_at blocks (p + 4) + length_at blocks (p + 8)) (from + length_at blocks p + length_at blocks (p + 4) + length_at blocks (p + 8) + length_at blocks (p + 12)) inside (omega (arith, e.row, e.family, e.qualifier)) (omega (arith, e.row, e.family, e.qualifier, e.label)) (omega arith) (omega (arith, size)) in
    let base : Key = record { row = slice_range parts 0 n.row; family = slice_range parts n.row (n.row + n.family); qualifier = slice_range parts (n.row + n.family) (n.row + n.family + n.qualifier); label = slice_range parts (n.row + n.family + n.qualifier) (n.row + n.family + n.qualifier + n.label); timestamp = pos 0 } in
    let none : c.reserve.new.self.items ≡ [] = search rules in
    let decoded : IsDecoded whole [] base p blocks count index = restarted blocks shares whole count index start base.row base.family base.qualifier base.label laid lt is row family qualifier label in
    let next = (decoded.next blank (omega (arith, lt))).entry in
    let low_row = row_short base blocks p next in
    let low_family = family_short base blocks p next in
    let low_qualifier = qualifier_short base blocks p next in
    let low_label = label_short base blocks p next in
    let at = based_at whole parts n.row n.family n.qualifier n.label long (omega (arith, e.row, low_row)) (omega (arith, e.family, low_family)) (omega (arith, e.qualifier, low_qualifier)) (omega (arith, e.label, low_label)) c.write_base-self.ensures.bytes in
    let key = based_key whole parts n.row n.family n.qualifier n.label long (omega (arith, e.row, low_row)) (omega (arith, e.family, low_family)) (omega (arith, e.qualifier, low_qualifier)) (omega (arith, e.label, low_label)) c.write_base-self.ensures.bytes in
    let all : c.deref_mut.result.now ≡ c.grow.new.body.items = search rules in
    let items : c.grow.new.body.len ≡ length c.grow.new.body.items = search rules in
    let written : take c.grow.new.body.len (c.write_base-self.new.out ++ drop (length c.write_base-self.new.out) c.grow.new.body.items) ≡ c.write_base-self.new.out = back c.grow.new.body.items c.write_base-self.new.out c.grow.new.body.len items (c.write_base-self.ensures.length ∙ ap length all) in
    subst (λ (xs : List ℕ). IsStanding (take c.write_base-self.result xs) c.reserve.new.self.items 0 p blocks count index) (sym written)
    (subst (λ (ps : List ℕ). IsStanding whole ps 0 p blocks count index) (sym none)
    (record { decoded = subst (λ k. IsDecoded whole [] k p blocks count index) (sym key) decoded; there = at; read = tt }))
