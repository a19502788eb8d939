use Rattle.ccan_confine.proofs.CounterLaws.{leads_off_law}
use Rattle.ccan_confine.proofs.laws.only_send_faults_lead_off.Goals as goal

pub returns : goal.returns
returns c = leads_off_law
