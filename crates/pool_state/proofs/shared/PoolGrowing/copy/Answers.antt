use Rattle.std.proofs.Common.{◌≡◌, ◌≢◌, ◌∙◌, ap, ℕ, length, drop, rules}
use Rattle.pool_state.proofs.Following.{copies-below, copies-whole, copies-more, copies-fewer}
use Rattle.pool_state.proofs.shared.PoolGrowing.copy.Goals as goal

pub returns-then-had-lemmas-clause-whole : goal.returns-then-had-lemmas-clause-whole
returns-then-had-lemmas-clause-whole c =
    let same : length c.args.have.now ≡ length c.args.self.now.lemmas = search rules in
    copies-whole c.args.self.now c.args.have.now c.kept.ensures.pool c.requires same

pub copies_from-requires : goal.copies_from-requires
copies_from-requires c =
    let below = copies-below c.args.self.now c.args.have.now c.kept.ensures.pool c.requires in
    search rules

pub returns-in-Ok-append-clause-whole : goal.returns-in-Ok-append-clause-whole
returns-in-Ok-append-clause-whole c =
    let had : c.len-had.result ≡ length c.args.have.now = search rules in
    copies-more c.args.self.now c.args.have.now c.in-Ok.news.items c.append.new.list c.kept.ensures.pool c.requires (c.in-Ok.ensures ∙ ap (λ (n : ℕ). drop n c.args.self.now.lemmas) had) c.in-Ok-append.ensures.added

pub returns-in-Err-append-clause-news : goal.returns-in-Err-append-clause-news
returns-in-Err-append-clause-news c =
    let differ : length c.args.have.now ≢ length c.args.self.now.lemmas = search rules in
    copies-fewer c.args.self.now c.args.have.now c.kept.ensures.pool differ

pub returns-in-Err-clause-news : goal.returns-in-Err-clause-news
returns-in-Err-clause-news c =
    let differ : length c.args.have.now ≢ length c.args.self.now.lemmas = search rules in
    copies-fewer c.args.self.now c.args.have.now c.kept.ensures.pool differ
