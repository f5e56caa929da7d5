mod Texts
mod TextsRead
mod ReadOn
mod Understood
mod Alone
mod Begins
mod Behind
