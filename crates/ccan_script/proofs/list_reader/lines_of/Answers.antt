-- The loop has read the lines before its index, all of them good; so the first bad line is the first fault of the list, and
-- where none was bad the lines are the list's.
use Rattle.std.proofs.Common.{◌≡◌, ◌∙◌, ◌≤◌, List, Some, ap, sym, subst, option_map, length, arith, get_or, below_more}
use Rattle.std.proofs.lemmas.List.Elements.{All-push}
use Rattle.serde_json.specs.Find.{as_array}
use Rattle.serde_json.specs.View.{items_view, view}
use Rattle.serde_json.specs.declared.value.Value.{Value}
use Rattle.ccan_script.specs.LineFault.{refusal_at}
use Rattle.ccan_script.specs.Json.{lines_in}
use Rattle.ccan_script.proofs.ListFaults.{bad_line, faultless, line_here, no_list, not_list, read_more, read_whole, too_many}
use Rattle.ccan_script.proofs.Unless.{unless_memory}
use Rattle.ccan_script.proofs.list_reader.lines_of.Goals as goal

pub returns-in_default-clause-reads : goal.returns-in_default-clause-reads
unfolding lines_in
returns-in_default-clause-reads g c =
    rw (c.in_default.is, c.new.ensures.items)
    (no_list c.args.list c.args.most (g.L.ScriptLine.fault c.args.context), tt)

pub returns-in_default-as_array-clause-reads : goal.returns-in_default-as_array-clause-reads
returns-in_default-as_array-clause-reads g c =
    rw c.in-Some.is (not_list c.args.list c.args.most (g.L.ScriptLine.fault c.args.context)
    (view c.in-Some.member.now) (sym c.in_default-as_array.ensures))

pub returns-then-len-most-clause-reads : goal.returns-then-len-most-clause-reads
returns-then-len-most-clause-reads g c =
    rw c.in-Some.is (too_many c.args.list c.args.most (g.L.ScriptLine.fault c.args.context)
    (view c.in-Some.member.now) c.in-Some-as_array.values.now.items (sym c.in-Some-as_array.ensures)
    (omega (arith, c.if-len-most.true, c.len.ensures, c.in-Some-as_array.values.now.ok.0)))

pub returns-in-Err-clause-reads : goal.returns-in-Err-clause-reads
returns-in-Err-clause-reads g c =
    let vs = c.deref-value-items.result.now in
    let array : as_array (view c.in-Some.member.now) ≡ Some (items_view vs) = sym c.in-Some-as_array.ensures
    ∙ ap (λ (xs : List Value). Some (items_view xs)) (sym c.deref-value-items.ensures.value) in
    let few : length vs ≤ c.args.most = omega (
      arith,
      c.if-len-most.false,
      c.len.ensures,
      c.in-Some-as_array.values.now.ok.0,
      ap length c.deref-value-items.ensures.value,
    ) in
    let at : get_or vs c.loop-index.index c.value-item.result ≡ c.value-item.result = sym c.value-item.is in
    rw c.in-Some.is (unless_memory c.at.result (bad_line c.args.list c.args.most (g.L.ScriptLine.fault c.args.context)
    (view c.in-Some.member.now) vs array c.loop-index.index c.at.result few
    (λ j h. rw c.in-Some.is at (c.loop-index.invariant.passed j h))
    (line_here c.args.list c.args.most (g.L.ScriptLine.fault c.args.context)
    (view c.in-Some.member.now) vs array c.loop-index.index c.value-item.result c.loop-index-test.true
    ∙ ap (λ (v : Value). option_map (refusal_at c.args.list c.loop-index.index)
    (g.L.ScriptLine.fault c.args.context (view v))) at
    ∙ ap (option_map (refusal_at c.args.list c.loop-index.index)) c.in-Err.ensures.reads ∙ ap (λ e. Some e) (sym c.at.ensures))))

pub loop-index-preserved : goal.loop-index-preserved
loop-index-preserved g c =
    let vs = c.deref-value-items.result.now in
    let array : as_array (view c.in-Some.member.now) ≡ Some (items_view vs) = sym c.in-Some-as_array.ensures
    ∙ ap (λ (xs : List Value). Some (items_view xs)) (sym c.deref-value-items.ensures.value) in
    let at : get_or vs c.loop-index.index c.value-item.result ≡ c.value-item.result = sym c.value-item.is in
    record {
      passed = rw c.in-Some.is (below_more _ c.loop-index.index (λ j h. rw c.in-Some.is at (c.loop-index.invariant.passed j h))
          (line_here c.args.list c.args.most (g.L.ScriptLine.fault c.args.context)
          (view c.in-Some.member.now) vs array c.loop-index.index c.value-item.result c.loop-index-test.true
          ∙ ap (λ (v : Value). option_map (refusal_at c.args.list c.loop-index.index)
          (g.L.ScriptLine.fault c.args.context (view v))) at
          ∙ ap (option_map (refusal_at c.args.list c.loop-index.index)) c.in-Ok.ensures.reads.0));
      read = read_more g.L.ScriptLine.says vs c.loop-index.index c.value-item.result c.loop-index.lines.items _ c.in-Ok.line
          c.loop-index-test.true c.loop-index.invariant.read
          (subst (λ (v : Value). g.L.ScriptLine.says (view v) c.in-Ok.line)
          (sym at) c.in-Ok.ensures.reads.1) c.in_ok-push-in-Ok.ensures.items;
      fits = rw c.in_ok-push-in-Ok.ensures.items
          (All-push
          (g.L.ScriptLine.fits c.args.context) c.loop-index.lines.items c.in-Ok.line
          c.loop-index.invariant.fits c.in-Ok.ensures.fits);
      many = omega (arith, c.in_ok-push-in-Ok.ensures.len, c.loop-index.invariant.many);
    }

pub returns-clause-reads : goal.returns-clause-reads
returns-clause-reads g c =
    let vs = c.deref-value-items.result.now in
    let array : as_array (view c.in-Some.member.now) ≡ Some (items_view vs) = sym c.in-Some-as_array.ensures
    ∙ ap (λ (xs : List Value). Some (items_view xs)) (sym c.deref-value-items.ensures.value) in
    let few : length vs ≤ c.args.most = omega (
      arith,
      c.if-len-most.false,
      c.len.ensures,
      c.in-Some-as_array.values.now.ok.0,
      ap length c.deref-value-items.ensures.value,
    ) in
    rw c.in-Some.is (
      faultless c.args.list c.args.most (g.L.ScriptLine.fault c.args.context)
          (view c.in-Some.member.now) vs array c.loop-index.index few c.loop-index-test.false
          (λ j h. rw c.in-Some.is at (c.loop-index.invariant.passed j h)),
      read_whole g.L.ScriptLine.says
          (view c.in-Some.member.now) vs c.loop-index.index _ array c.loop-index-test.false c.loop-index.invariant.read,
    )
