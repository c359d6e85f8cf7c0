use Rattle.std.proofs.Common.{rules, arith, ◌≡◌, ◌∙◌, sym, subst, ap, Some, Err}
use Rattle.std.specs.Prelude.{slice_get}
use Rattle.std.proofs.lemmas.Option.{slice_get-get_or}
use Rattle.cbc_top.specs.steps.Reads.{Adds, Joins}
use Rattle.cbc_top.proofs.Joins.{loop_stops, loop_goes_on}
use Rattle.cbc_top.proofs.model_files.joined.Goals as goal

pub returns-in_err-push_file-clause-read : goal.returns-in_err-push_file-clause-read
returns-in_err-push_file-clause-read g c =
    let place : slice_get c.args.names.now c.loop-k.k ≡ Some c.in_ok-copied.field-0 =
    slice_get-get_or c.args.names.now c.loop-k.k c.index-names-k.result (omega arith) ∙ ap Some (sym (c.in_ok-copied.ensures ∙ c.index-names-k.is)) in
    let stopped : Joins c.args.names.now (g.S.Source.files c.args.src.now) (g.S.Source.opened c.args.src.now) (g.S.Source.opened c.push_file.new.src) (g.S.Source.fault_name c.push_file.new.src) (Err c.in_err-push_file.field-0.0) =
    loop_stops c.args.names.now (g.S.Source.files c.args.src.now) (g.S.Source.opened c.args.src.now) (g.S.Source.opened c.loop-k.src) (g.S.Source.opened c.push_file.new.src)
    c.loop-k.k c.loop-k.bytes.items c.push_separator.new.text.items c.in_ok-copied.field-0 c.push_file.new.text.items (g.S.Source.fault_name c.push_file.new.src) c.in_err-push_file.field-0.0
    c.loop-k.invariant.joined c.in_ok-push_separator.ensures.separated place c.in_err-push_file.ensures.tried (subst (λ z. Adds z c.in_ok-copied.field-0 c.push_separator.new.text.items c.push_file.new.text.items (g.S.Source.fault_name c.push_file.new.src) (Err c.in_err-push_file.field-0.0)) c.loop-k.invariant.same c.in_err-push_file.ensures.added) in
    search (rules, stopped)

pub loop-k-preserved : goal.loop-k-preserved
loop-k-preserved g c =
    let place : slice_get c.args.names.now c.loop-k.k ≡ Some c.in_ok-copied.field-0 =
    slice_get-get_or c.args.names.now c.loop-k.k c.index-names-k.result (omega arith) ∙ ap Some (sym (c.in_ok-copied.ensures ∙ c.index-names-k.is)) in
    record {
      same = c.in_ok-push_file.ensures.same ∙ c.loop-k.invariant.same;
      faults = c.in_ok-push_file.ensures.fault ∙ c.loop-k.invariant.faults;
      joined = loop_goes_on c.args.names.now (g.S.Source.files c.args.src.now) (g.S.Source.opened c.args.src.now) (g.S.Source.opened c.loop-k.src) (g.S.Source.opened c.push_file.new.src)
          c.loop-k.k c.loop-k.bytes.items c.push_separator.new.text.items c.in_ok-copied.field-0 c.push_file.new.text.items (g.S.Source.fault_name c.push_file.new.src)
          c.loop-k.invariant.joined c.in_ok-push_separator.ensures.separated place c.in_ok-push_file.ensures.tried (rw c.loop-k.invariant.same at c.in_ok-push_file.ensures.added);
    }
