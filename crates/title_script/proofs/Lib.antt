mod AskedAlone
mod ServedLaws
