-- Against the contracts that the check makes of the source of `host`: what each function of the archive returns, answers and leaves is what the step says of it.
use contract.Lifetimes.{Lfts}
use mathlib.Core.Path.{◌≡◌}
use mathlib.Core.List.{[]}
use Rattle.pairs.specs.Lists.{Lists, lists}
use Rattle.forms.specs.declared.forms.Item.TheVariants.{Contract, Pair}
use Rattle.forms.specs.declared.rows.Level.TheVariants.{One, Two}
use Rattle.state.specs.Memory.{Lent, lends}
use Rattle.hosted.specs.HostCalls as calls
use Rattle.hosted.specs.HostCalls.{host_step}
use Rattle.hosted.proofs.HostCallsLaws.{gives, in_lists, start_says, judge_says, take_says, list_says, off_says, read_says, write_says, no_spreads_says}
use Rattle.host.proofs.quotebox_start.Reads as start
use Rattle.host.proofs.quotebox_judge.Reads as judge
use Rattle.host.proofs.quotebox_take.Reads as take
use Rattle.host.proofs.quotebox_list_gaps.Reads as list_gaps
use Rattle.host.proofs.quotebox_write_off.Reads as write_off
use Rattle.host.proofs.quotebox_read_level1.Reads as read_level1
use Rattle.host.proofs.quotebox_read_level2.Reads as read_level2
use Rattle.host.proofs.quotebox_write_level1.Reads as write_level1
use Rattle.host.proofs.quotebox_write_level2.Reads as write_level2
use Rattle.host.proofs.quotebox_read_spread1.Reads as read_spread1
use Rattle.host.proofs.quotebox_read_spread2.Reads as read_spread2
use Rattle.host.proofs.quotebox_write_spread1.Reads as write_spread1
use Rattle.host.proofs.quotebox_write_spread2.Reads as write_spread2
use Rattle.host.proofs.quotebox_no_spreads.Reads as no_spreads

-- whatever lists were in use before
start_steps : (κs : Lfts 6) (a : _) (r x : _) (before : Lists) → start.Post κs a r x
    → in_lists (lists a.0.now a.1.0.now) (host_step (lends before a.1.1.1.0.now a.1.1.1.1.0.now) (calls.start (lists a.0.now a.1.0.now) a.1.1.0.now))
    ≡ gives r x.1.1.1.1.1.0.now [] (lends (lists a.0.now a.1.0.now) x.1.1.1.0.now x.1.1.1.1.0.now)
start_steps κs a r x before p = (start_says (lends before a.1.1.1.0.now a.1.1.1.1.0.now) _ _ r _ _).0 p

judge_steps : (κs : Lfts 6) (a : _) (r x : _) → judge.Post κs a r x
    → host_step (lends (lists a.0.now a.1.0.now) a.1.1.0.now a.1.1.1.0.now) (calls.judge a.1.1.1.1.0.now)
    ≡ gives r x.1.1.1.1.1.0.now [] (lends (lists a.0.now a.1.0.now) a.1.1.0.now a.1.1.1.0.now)
judge_steps κs a r x p = (judge_says _ _ r _).0 p

take_steps : (κs : Lfts 6) (a : _) (r x : _) → take.Post κs a r x
    → host_step (lends (lists a.0.now a.1.0.now) a.1.1.0.now a.1.1.1.0.now) (calls.take a.1.1.1.1.0.now)
    ≡ gives r x.1.1.1.1.1.0.now [] (lends (lists a.0.now a.1.0.now) x.1.1.0.now x.1.1.1.0.now)
take_steps κs a r x p = (take_says _ _ r _ _).0 p

list_gaps_steps : (κs : Lfts 6) (a : _) (r x : _) → list_gaps.Post κs a r x
    → host_step (lends (lists a.0.now a.1.0.now) a.1.1.0.now a.1.1.1.0.now) (calls.list_gaps a.1.1.1.1.0 a.1.1.1.1.1.0.now)
    ≡ gives r x.1.1.1.1.1.1.0.now x.1.1.1.1.1.0.now (lends (lists a.0.now a.1.0.now) a.1.1.0.now a.1.1.1.0.now)
list_gaps_steps κs a r x p = (list_says _ _ _ r _ _).0 p

write_off_steps : (κs : Lfts 5) (a : _) (r x : _) → write_off.Post κs a r x
    → host_step (lends (lists a.0.now a.1.0.now) a.1.1.0.now a.1.1.1.0.now) (calls.write_off a.1.1.1.1.0)
    ≡ gives r x.1.1.1.1.1.0.now [] (lends (lists a.0.now a.1.0.now) x.1.1.0.now a.1.1.1.0.now)
write_off_steps κs a r x p = (off_says _ _ r _ _).0 p

read_level1_steps : (κs : Lfts 7) (a : _) (r x : _) → read_level1.Post κs a r x
    → host_step (lends (lists a.0.now a.1.0.now) a.1.1.0.now a.1.1.1.0.now) (calls.read Contract One a.1.1.1.1.0 a.1.1.1.1.1.0.now a.1.1.1.1.1.1.0.now)
    ≡ gives r x.1.1.1.1.1.1.1.0.now x.1.1.1.1.1.1.0.now (lends (lists a.0.now a.1.0.now) a.1.1.0.now a.1.1.1.0.now)
read_level1_steps κs a r x p = (read_says _ Contract _ _ _ _ r _ _).0 p

read_level2_steps : (κs : Lfts 7) (a : _) (r x : _) → read_level2.Post κs a r x
    → host_step (lends (lists a.0.now a.1.0.now) a.1.1.0.now a.1.1.1.0.now) (calls.read Contract Two a.1.1.1.1.0 a.1.1.1.1.1.0.now a.1.1.1.1.1.1.0.now)
    ≡ gives r x.1.1.1.1.1.1.1.0.now x.1.1.1.1.1.1.0.now (lends (lists a.0.now a.1.0.now) a.1.1.0.now a.1.1.1.0.now)
read_level2_steps κs a r x p = (read_says _ Contract _ _ _ _ r _ _).0 p

read_spread1_steps : (κs : Lfts 7) (a : _) (r x : _) → read_spread1.Post κs a r x
    → host_step (lends (lists a.0.now a.1.0.now) a.1.1.0.now a.1.1.1.0.now) (calls.read Pair One a.1.1.1.1.0 a.1.1.1.1.1.0.now a.1.1.1.1.1.1.0.now)
    ≡ gives r x.1.1.1.1.1.1.1.0.now x.1.1.1.1.1.1.0.now (lends (lists a.0.now a.1.0.now) a.1.1.0.now a.1.1.1.0.now)
read_spread1_steps κs a r x p = (read_says _ Pair _ _ _ _ r _ _).0 p

read_spread2_steps : (κs : Lfts 7) (a : _) (r x : _) → read_spread2.Post κs a r x
    → host_step (lends (lists a.0.now a.1.0.now) a.1.1.0.now a.1.1.1.0.now) (calls.read Pair Two a.1.1.1.1.0 a.1.1.1.1.1.0.now a.1.1.1.1.1.1.0.now)
    ≡ gives r x.1.1.1.1.1.1.1.0.now x.1.1.1.1.1.1.0.now (lends (lists a.0.now a.1.0.now) a.1.1.0.now a.1.1.1.0.now)
read_spread2_steps κs a r x p = (read_says _ Pair _ _ _ _ r _ _).0 p

-- whatever memory the box has
write_level1_steps : (κs : Lfts 5) (a : _) (r x : _) (lent : Lent) → write_level1.Post κs a r x
    → host_step lent (calls.write Contract One a.0.now a.1.0 a.1.1.0.now a.1.1.1.0.now a.1.1.1.1.0.now)
    ≡ gives r x.1.1.1.1.1.0.now x.1.1.1.1.0.now lent
write_level1_steps κs a r x lent p = (write_says lent Contract _ _ _ _ _ _ r _ _).0 p

write_level2_steps : (κs : Lfts 5) (a : _) (r x : _) (lent : Lent) → write_level2.Post κs a r x
    → host_step lent (calls.write Contract Two a.0.now a.1.0 a.1.1.0.now a.1.1.1.0.now a.1.1.1.1.0.now)
    ≡ gives r x.1.1.1.1.1.0.now x.1.1.1.1.0.now lent
write_level2_steps κs a r x lent p = (write_says lent Contract _ _ _ _ _ _ r _ _).0 p

write_spread1_steps : (κs : Lfts 5) (a : _) (r x : _) (lent : Lent) → write_spread1.Post κs a r x
    → host_step lent (calls.write Pair One a.0.now a.1.0 a.1.1.0.now a.1.1.1.0.now a.1.1.1.1.0.now)
    ≡ gives r x.1.1.1.1.1.0.now x.1.1.1.1.0.now lent
write_spread1_steps κs a r x lent p = (write_says lent Pair _ _ _ _ _ _ r _ _).0 p

write_spread2_steps : (κs : Lfts 5) (a : _) (r x : _) (lent : Lent) → write_spread2.Post κs a r x
    → host_step lent (calls.write Pair Two a.0.now a.1.0 a.1.1.0.now a.1.1.1.0.now a.1.1.1.1.0.now)
    ≡ gives r x.1.1.1.1.1.0.now x.1.1.1.1.0.now lent
write_spread2_steps κs a r x lent p = (write_says lent Pair _ _ _ _ _ _ r _ _).0 p

no_spreads_steps : (κs : Lfts 3) (a : _) (r x : _) (lent : Lent) → no_spreads.Post κs a r x
    → host_step lent (calls.no_spreads a.0.now a.1.0.now)
    ≡ gives r x.1.1.0.now x.1.0.now lent
no_spreads_steps κs a r x lent p = (no_spreads_says lent _ _ r _ _).0 p
