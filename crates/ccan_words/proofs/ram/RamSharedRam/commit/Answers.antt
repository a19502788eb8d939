-- A version is made for what is due, published by one exchange, and what that play told the seat is what the contract says of
-- the port.
use Rattle.std.proofs.Common.{◌≡◌, ap, sym, subst, ◌∙◌, arith, Ok}
use Rattle.ccan_object.specs.declared.profile.Profile.{Profile}
use Rattle.ccan_ram.specs.declared.change.Changed.{Changed}
use Rattle.ccan_ram.specs.declared.change.Changed.TheVariants.{Done}
use Rattle.ccan_ram.specs.Change.{fits}
use Rattle.ccan_ram.specs.Draft.{AddsCommit}
use Rattle.ccan_ram.specs.SharedRam.{Memory}
use Rattle.ccan_words.specs.declared.version.Version.{Version}
use Rattle.ccan_words.specs.Version.{IsReadyIn, PublishesIn}
use Rattle.ccan_words.proofs.Committing.{Due, Tried, ready, done_after, done_commits, lost_after, lost_commits}
use Rattle.ccan_words.proofs.Ports.{pass, with_seat}
use Rattle.ccan_words.proofs.Tables.{memory_is}
use Rattle.ccan_words.proofs.ram.RamSharedRam.commit.Given.{Over}
use Rattle.ccan_words.proofs.ram.RamSharedRam.commit.Goals.{After-of-version, After-publish-now}
use Rattle.ccan_words.proofs.ram.RamSharedRam.commit.Goals as goal

module _ (g : Over) (c : After-of-version g) where
  ours : (pass c.port.inside).memory ≡ c.args.self.now.words
  ours = memory_is c.port.view_is c.requires.memory

  -- a version is to be made
  due : Due g.L.Layout.contends g.L.Layout.MOST c.port.inside c.args.port.now c.args.draft c.args.change.now
  due =
      let s = c.port.inside in
      let quota : s.key.quota ≡ c.key-quota.result.quota = ap (λ (m : Memory). m.quota) ours ∙ sym c.key-quota.ensures.quota in
      record {
        is_was = c.port.view_is;
        drawn = c.requires.drawn;
        fit = ap (fits c.args.change.now) (sym c.held.ensures) ∙ (sym c.fits.ensures ∙ c.if-not-fits.false);
        room = (let r = c.port.invariant.room in let n = c.if-port-quota.false in omega arith);
        top = (let w = c.key-quota.ensures.within in omega arith);
      }

module _ (g : Over) (c : After-publish-now g) where
  -- it was made and tried
  tried : Tried c.port.inside c.port.invariant (g.L.Layout.form c.port.inside.key.profile) c.args.port.now c.args.draft
      c.args.change.now c.publish-now.new.seat c.publish-now.result
  tried =
      let s = c.port.inside in
      let made = (goal.at.After-publish-now g c).After-of-version in
      let profile : c.args.self.now.words.profile ≡ s.key.profile = ap (λ (m : Memory). m.profile) (sym (ours g made)) in
      record {
        due = due g made;
        table = c.publish-now.ensures.same;
        told =
            subst (λ (u : Profile × Version).
            PublishesIn (g.L.Layout.form u.0) u.1 s.seat.me c.publish-now.result c.publish-now.new.seat.me)
            (λ j. (profile j, c.of-version.ensures.version j)) c.publish-now.ensures.told
            c.port.invariant.held c.port.invariant.view;
      }

  old_is : c.of-version.result.old ≡ c.args.draft.number
  old_is = ap (λ (v : Version). v.old) c.of-version.ensures.version

pub publish-now-requires-clause-ready : goal.publish-now-requires-clause-ready
publish-now-requires-clause-ready g c =
    let s = c.port.inside in
    let here = (goal.at.publish-now-requires-clause-ready g c).After-of-version in
    let profile : s.key.profile ≡ c.args.self.now.words.profile = ap (λ (m : Memory). m.profile) (ours g here) in
    subst (λ (u : Profile × Version). IsReadyIn (g.L.Layout.form u.0) u.1 s.seat.me)
    (λ j. (profile j, sym c.of-version.ensures.version j))
    (c.port.invariant.held, c.port.invariant.view, ready c.port.invariant (g.L.Layout.form s.key.profile) (due g here))

pub invariant_of-port : goal.invariant_of-port
invariant_of-port g c =
    let here = (goal.at.invariant_of-port g c).After-publish-now in
    done_after (tried g here) (c.if-now-version.true ∙ old_is g here)

pub invariant_of-port-else-now-version : goal.invariant_of-port-else-now-version
invariant_of-port-else-now-version g c =
    let here = (goal.at.invariant_of-port-else-now-version g c).After-publish-now in
    lost_after (tried g here) (λ e. c.if-now-version.false (e ∙ sym (old_is g here)))

pub returns-then-now-version-clause-commits : goal.returns-then-now-version-clause-commits
returns-then-now-version-clause-commits g c =
    let here = (goal.at.returns-then-now-version-clause-commits g c).After-publish-now in
    let new = pass (with_seat c.port.inside c.publish-now.new.seat) in
    let answer = c.done.ensures ∙ ap (λ (v : Version). Done v.before v.after v.number) c.of-version.ensures.version in
    subst (λ (z : Changed). AddsCommit g.L.Layout.contends c.args.port.now new c.args.draft c.args.change.now (Ok z)) (sym answer)
    (done_commits (tried g here) (c.if-now-version.true ∙ old_is g here))

pub returns-else-now-version-clause-commits : goal.returns-else-now-version-clause-commits
returns-else-now-version-clause-commits g c =
    let here = (goal.at.returns-else-now-version-clause-commits g c).After-publish-now in
    lost_commits (tried g here) (λ e. c.if-now-version.false (e ∙ sym (old_is g here)))
