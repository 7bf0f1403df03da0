-- The last record lies at the beginning.
use Rattle.std.proofs.Common.{rules, ◌≡◌, ◌≤◌, List, ℕ, [], ◌++◌, sym, ◌∙◌, ap, subst, length, take, drop}
use Rattle.tab_key.specs.Encoding.{record_at, IsAt, AreAt}
use Rattle.tab_table.specs.Decoding.{untimed}
use Rattle.tab_table.proofs.Longer.{longer_at, longer_record, back}
use Rattle.tab_table.proofs.decoded.Decoded.forget.Goals as goal

pub keep_record-self-requires : goal.keep_record-self-requires
keep_record-self-requires c =
    let self = c.args.self.now in
    let all : c.deref_mut.result.now ≡ self.body.items = search rules in
    subst (λ (xs : List ℕ). IsAt xs self.base) (sym all) (longer_at self.body.items self.end self.base self.inside c.requires)

pub returns-clause-base : goal.returns-clause-base
returns-clause-base c =
    let self = c.args.self.now in
    let out = c.keep_record-self.new.out in
    let all : c.deref_mut.result.now ≡ self.body.items = search rules in
    let long : self.body.len ≡ length self.body.items = search rules in
    let is : take self.body.len (out ++ drop (length out) self.body.items) ≡ out = back self.body.items out self.body.len long (c.keep_record-self.ensures.length ∙ ap length all) in
    subst (λ (xs : List ℕ). IsAt (take c.keep_record-self.result xs) 0) (sym is) c.keep_record-self.ensures.within

pub returns-clause-key : goal.returns-clause-key
returns-clause-key c =
    let self = c.args.self.now in
    let out = c.keep_record-self.new.out in
    let all : c.deref_mut.result.now ≡ self.body.items = search rules in
    let long : self.body.len ≡ length self.body.items = search rules in
    let is : take self.body.len (out ++ drop (length out) self.body.items) ≡ out = back self.body.items out self.body.len long (c.keep_record-self.ensures.length ∙ ap length all) in
    ap (λ u. untimed u.key) (ap (λ (xs : List ℕ). record_at (take c.keep_record-self.result xs) 0) is ∙ c.keep_record-self.ensures.record ∙ ap (λ (xs : List ℕ). record_at xs self.base) all ∙ longer_record self.body.items self.end self.base self.inside c.requires)
