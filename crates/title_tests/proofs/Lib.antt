mod Earlier
