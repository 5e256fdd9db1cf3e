use Rattle.mc_allkeys.proofs.keys.Keys.sound.Goals as goal

pub returns : goal.returns
returns c = rw (← c.self.view_is) c.self.inside.sound
