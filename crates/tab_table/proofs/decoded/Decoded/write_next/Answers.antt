-- One record more is decoded.
use Rattle.std.proofs.Common.{rules, ◌≡◌, ◌≤◌, ◌+◌, List, ℕ, [], ◌∷◌, ◌++◌, sym, ◌∙◌, ap, subst, length, take, drop, arith, take-take}
use Rattle.std.proofs.lemmas.List.{length-take-le}
use Rattle.tab_key.specs.Encoding.{record_at, IsAt, AreAt}
use Rattle.tab_key.proofs.Placed.{head_inside, pushed_at}
use Rattle.tab_table.specs.Blocks.{entry_at, entry_end, place_behind, IsEntry}
use Rattle.tab_table.specs.Decoding.{untimed, key_at, AreEntries, IsDecoded, IsStanding}
use Rattle.tab_table.proofs.Inside.{counts_inside, read_end}
use Rattle.tab_table.proofs.Moved.{read_more}
use Rattle.tab_table.proofs.Longer.{back}
use Rattle.tab_table.proofs.Onward.{decoded_more}
use Rattle.tab_table.proofs.decoded.Decoded.write_next.Goals as goal

pub at-requires : goal.at-requires
at-requires c = omega (arith, counts_inside c.args.blocks.now c.args.self.now.at c.requires.entry.rest)

pub size-more-requires : goal.size-more-requires
size-more-requires c = omega (arith, c.requires.entry.rest.within.whole, read_end c.at.result c.args.blocks.now c.args.self.now.at c.at.ensures)

pub overflow_add-next : goal.overflow_add-next
overflow_add-next c = omega (arith, c.requires.entry.rest.within.whole, c.size-more.ensures, read_end c.at.result c.args.blocks.now c.args.self.now.at c.at.ensures)

pub invariant_of-self-2 : goal.invariant_of-self-2
invariant_of-self-2 c =
    let self = c.args.self.now in
    let p = self.end in
    let places = self.places.items in
    let out : List ℕ = take p self.body.items in
    let new : List ℕ = c.write_record-self.new.out in
    let end = c.write_record-self.result in
    let out2 : List ℕ = take end new in
    let all : c.deref_mut.result.now ≡ self.body.items = search rules in
    let items : self.body.len ≡ length self.body.items = search rules in
    let written : take self.body.len (new ++ drop (length new) self.body.items) ≡ new = back self.body.items new self.body.len items (c.write_record-self.ensures.length ∙ ap length all) in
    let long : length out ≡ p = length-take-le p self.body.items self.inside in
    let long2 : length out2 ≡ end = length-take-le end new c.write_record-self.ensures.inside in
    let up : p ≤ end = omega (arith, head_inside out2 p c.write_record-self.ensures.within, long2) in
    let front : take (length out) out2 ≡ out = ap (λ n. take n out2) long ∙ take-take p end new up ∙ c.write_record-self.ensures.front ∙ ap (take p) all in
    let now : c.push.new.self.items ≡ places ++ p ∷ [] = search rules in
    record {
      inside = subst (λ (xs : List ℕ). end ≤ length xs) (sym written) c.write_record-self.ensures.inside;
      within = subst (λ (xs : List ℕ). AreAt (take end xs) c.push.new.self.items) (sym written) (pushed_at out out2 places c.push.new.self.items p now front self.within c.write_record-self.ensures.within);
    }

pub returns-in_err-push-clause-decoded : goal.returns-in_err-push-clause-decoded
returns-in_err-push-clause-decoded c = λ count first laid lt known.
    let self = c.args.self.now in
    let same : c.push.new.self.items ≡ self.places.items = search rules in
    subst (λ (ps : List ℕ). IsStanding (take self.end self.body.items) ps self.base self.at c.args.blocks.now count first) (sym same) known

pub returns-clause-decoded : goal.returns-clause-decoded
returns-clause-decoded c = λ count first laid lt known.
    let self = c.args.self.now in
    let blocks = c.args.blocks.now in
    let at = self.at in
    let p = self.end in
    let places = self.places.items in
    let out : List ℕ = take p self.body.items in
    let new : List ℕ = c.write_record-self.new.out in
    let end = c.write_record-self.result in
    let out2 : List ℕ = take end new in
    let all : c.deref_mut.result.now ≡ self.body.items = search rules in
    let before : take p c.deref_mut.result.now ≡ out = ap (take p) all in
    let base = key_at out self.base in
    let long : length out ≡ p = length-take-le p self.body.items self.inside in
    let long2 : length out2 ≡ end = length-take-le end new c.write_record-self.ensures.inside in
    let up : p ≤ end = omega (arith, head_inside out2 p c.write_record-self.ensures.within, long2) in
    let front : take (length out) out2 ≡ out = ap (λ n. take n out2) long ∙ take-take p end new up ∙ c.write_record-self.ensures.front ∙ before in
    let reads : record_at out2 p ≡ entry_at base blocks at = c.write_record-self.ensures.record ∙ ap (λ (xs : List ℕ). entry_at (key_at xs self.base) blocks at) before in
    let now : c.push.new.self.items ≡ places ++ p ∷ [] = search rules in
    let more = decoded_more blocks count laid out out2 places base at first self.within known.decoded lt p front reads in
    let next : at + c.size-more.result ≡ entry_end blocks at = ap (λ n. at + n) c.size-more.ensures ∙ read_end c.at.result blocks at c.at.ensures in
    let items : self.body.len ≡ length self.body.items = search rules in
    let written : take self.body.len (new ++ drop (length new) self.body.items) ≡ new = back self.body.items new self.body.len items (c.write_record-self.ensures.length ∙ ap length all) in
    subst (λ (xs : List ℕ). IsStanding (take end xs) c.push.new.self.items p (at + c.size-more.result) blocks count first) (sym written)
    (subst (λ ps. IsStanding out2 ps p (at + c.size-more.result) blocks count first) (sym now)
    (record {
      decoded = subst (λ k. IsDecoded out2 (places ++ p ∷ []) k (at + c.size-more.result) blocks count first) (sym (ap (λ u. untimed u.key) reads)) (subst (λ q. IsDecoded out2 (places ++ p ∷ []) (untimed (entry_at base blocks at).key) q blocks count first) (sym next) more);
      there = c.write_record-self.ensures.within;
      read =
          subst (λ q. AreEntries out2 (places ++ p ∷ []) blocks (place_behind blocks 0 first) q (key_at out2 p)) (sym next)
          (read_more out out2 places blocks first at p base self.within front known.decoded.place c.requires.entry known.read reads);
    }))
