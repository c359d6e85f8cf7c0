use Rattle.std.proofs.Common.{◌≡◌, ◌∙◌, subst, sym, ap, ◌<◌, length, Some}
use Rattle.eb_term.specs.declared.problem.Problem.{Problem}
use Rattle.eb_meaning.specs.Problems.{AreDefinitionsNamed}
use Rattle.occ_store.specs.Stores.{HaveIntegers}
use Rattle.branch_search.specs.declared.depth_first.Answer.TheVariants as answer
use Rattle.branch_search.specs.Search.{Answers}
use Rattle.cbc_answers.specs.Answers.{head_text}
use Rattle.cbc_answers.proofs.Witnesses.{few_in, none_named}
use Rattle.cbc_answers.proofs.Found.{low_of, high_of, head_is, is_found, is_refuted, is_undecided}
use Rattle.cbc_answers.proofs.answering.answered.Goals as goal

pub search-requires-clause-integers : goal.search-requires-clause-integers
search-requires-clause-integers c = subst (λ (p : Problem). HaveIntegers p.choices) (sym c.requires.same) c.requires.lawful.integers

pub search-requires-clause-few : goal.search-requires-clause-few
search-requires-clause-few c =
    subst (λ (p : Problem). length p.choices < 4294967296) (sym c.requires.same) (few_in c.args.asked.now c.requires.lawful (c.requires.problem ∙ ap (λ p. Some p) c.requires.same)).0

pub search-requires-clause-scope : goal.search-requires-clause-scope
search-requires-clause-scope c = c.requires.lawful.small.some

pub search-requires-clause-named : goal.search-requires-clause-named
search-requires-clause-named c = subst AreDefinitionsNamed (sym c.requires.same) (none_named c.args.asked.now)

pub returns-in-Found : goal.returns-in-Found
returns-in-Found c =
    let found : Answers c.args.asked.now.scope c.args.problem.now c.args.budget (answer.Found c.in-Found.values) = rw c.in-Found.is at c.in_ok-values.ensures in
    let headed : c.in_ok-head.head.items ≡ head_text c.args.asked.now = head_is c.args.asked.now c.in_ok-notes.notes c.in_ok-head.head.items c.in_ok-notes.ensures.notes (rw c.as_slice.ensures at c.in_ok-head.ensures) in
    is_found c.args.asked.now
    (c.solutions_are_witnesses.ensures.witnesses c.args.asked.now.scope (low_of c.args.asked.now c.requires.lawful) (high_of c.args.asked.now c.requires.lawful) c.args.asked.now.model c.args.asked.now.types c.requires.lawful.typed)
    c.args.budget c.args.problem.now c.in-Found.values c.in_ok-head.head.items c.in_ok-bytes-in-Found.bytes c.in_ok-sets-in-Found.sets
    c.requires.same found headed c.in_ok-sets-in-Found.ensures (rw c.as_slice-in-Found.ensures at c.in_ok-bytes-in-Found.ensures)

pub returns-in-Refuted : goal.returns-in-Refuted
returns-in-Refuted c =
    let found : Answers c.args.asked.now.scope c.args.problem.now c.args.budget (answer.Refuted c.in-Refuted.lines) = rw c.in-Refuted.is at c.in_ok-values.ensures in
    let headed : c.in_ok-head.head.items ≡ head_text c.args.asked.now = head_is c.args.asked.now c.in_ok-notes.notes c.in_ok-head.head.items c.in_ok-notes.ensures.notes (rw c.as_slice.ensures at c.in_ok-head.ensures) in
    is_refuted c.args.asked.now c.args.budget c.args.problem.now c.in-Refuted.lines c.in_ok-head.head.items c.in_ok-bytes-in-Refuted.bytes
    c.requires.same found headed (rw c.as_slice-in-Refuted.ensures at c.in_ok-bytes-in-Refuted.ensures)

pub returns : goal.returns
returns c =
    let found : Answers c.args.asked.now.scope c.args.problem.now c.args.budget (answer.Undecided c.in-Undecided.lines) = rw c.in-Undecided.is at c.in_ok-values.ensures in
    let headed : c.in_ok-head.head.items ≡ head_text c.args.asked.now = head_is c.args.asked.now c.in_ok-notes.notes c.in_ok-head.head.items c.in_ok-notes.ensures.notes (rw c.as_slice.ensures at c.in_ok-head.ensures) in
    is_undecided c.args.asked.now c.args.budget c.args.problem.now c.in-Undecided.lines c.in_ok-head.head.items c.in_ok-bytes-in-Undecided.bytes
    c.requires.same found headed (rw c.as_slice-in-Undecided.ensures at c.in_ok-bytes-in-Undecided.ensures)
