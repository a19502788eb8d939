-- What a script says. Source: this project's own.
use Rattle.std.specs.Prelude.{ℕ, List}
use Rattle.ccan_object.specs.declared.profile.Profile.{Profile}
use Rattle.ccan_ram.specs.declared.port.PortName.{PortName}
use Rattle.ccan_line.specs.declared.host_line.HostLine.{HostLine}
use Rattle.ccan_line.specs.declared.bus_line.BusLine.{BusLine}
use Rattle.ccan_line.specs.declared.script.Script.{Script}

-- what a script says, wherever it lies in memory
pub record ScriptFields : Type 0 where
  pub profile : Profile
  pub quota : ℕ
  pub tries : ℕ
  pub nodes : ℕ
  pub if1 : List HostLine
  pub if2 : List HostLine
  pub bus : List BusLine
  pub order : List PortName

-- what a script says, without where it lies in memory
abbrev pub fields_of : Script → ScriptFields
fields_of s =
    record {
      profile = s.profile;
      quota = s.quota;
      tries = s.tries;
      nodes = s.nodes;
      if1 = s.if1.items;
      if2 = s.if2.items;
      bus = s.bus.items;
      order = s.order.items;
    }
