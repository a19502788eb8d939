use Rattle.std.proofs.Common.{[], refl, sym, ◌∙◌}
use Rattle.ccan_c.specs.HostCall as host_call
use Rattle.ccan_c.specs.Host.{held_by}
use Rattle.ccan_c.proofs.Calls.{host_refused, on_known, on_open, on_unknown}
use Rattle.ccan_c.proofs.host.ccan_set.Goals as goal

pub returns-in_default : goal.returns-in_default
returns-in_default c =
    host_refused (host_call.set c.args.register c.args.value 10) (held_by c.args.host.now)
    (sym c.is_open.ensures ∙ c.if-not-is_open.false)
    (λ held. on_unknown _ _ _ c.in_default.ensures (record { code_is = refl; quiet = refl; leaves = refl }))

pub returns : goal.returns
returns c =
    on_open _ _ _ _ _ c.as_mut.ensures.value (
      _,
      refl,
      record {
        works = record { tries = refl; nodes = refl; map = refl };
        bus = refl;
        goes = record {
          same = record { memory = refl; port = refl };
          each = λ s. (
            [],
            s,
            refl,
            on_known _ _ _ _ c.in-Some.ensures (record {
              code_is = refl;
              quiet = refl;
              leaves = λ i. record { registers = c.set.ensures i; asked = c.as_mut.result.now.own.asked };
            }),
          );
        };
      },
    )
